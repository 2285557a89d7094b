-- The keys of both tables as one map. Serves the clauses of `Table`.
use Rattle.std.proofs.Common.{◌≡◌, ◌≢◌, refl, sym, ap, subst, ◌∙◌, ℕ, Bool, true, false, cond, List, ◌++◌, [], ◌∷◌, Option, Some, None, MutBor}
use Rattle.std.specs.Ordering.{nat_cmp, eq_by_cmp}
use Rattle.std.specs.Option.{option_or, OnSome}
use Rattle.std.specs.Cmp.Lexicographic.{slice_cmp, nat_list_cmp_total}
use Rattle.std.specs.FinMap as finite
use Rattle.std.specs.FinMap.{find, get-empty, get-insert, get-remove, get-entries, get-from_entries, same_map}
use Rattle.std.proofs.lemmas.Bool.{false≢true}
use Rattle.std.proofs.lemmas.Map.Lookups.{exact_bytes}
use Rattle.core_types.specs.Keys.{Entry, KeysOf, no_keys, entry_at, with_entry, without}
use Rattle.key_store.specs.inner.Short.{is_short}
use Rattle.key_store.specs.inner.Halves.{both, AllShort, AllLong}
use Rattle.key_store.proofs.Trees.{equal}
use Rattle.key_store.proofs.Moves.{is_same, other_key}

same_name : (a b : List ℕ) → is_same a b ≡ true → a ≡ b
same_name a b same = exact_bytes a b (equal (slice_cmp nat_cmp a b) same)

-- a short name is no long one
pub lengths_differ : (a b : List ℕ) → is_short a ≡ false → is_short b ≡ true → a ≢ b
lengths_differ a b long short same = false≢true (sym long ∙ ap is_short same ∙ short)

or_none : {A : Type 0} (x : Option A) → option_or x None ≡ x
or_none None = refl
or_none (Some x) = refl

still_none : {A : Type 0} (b : Bool) (x : Option A) → x ≡ None → cond b None x ≡ None
still_none true x none = refl
still_none false x none = none

find-append : {X : Type 0} (q : List ℕ) (es fs : List (List ℕ × X)) → find (slice_cmp nat_cmp) q (es ++ fs) ≡ option_or (find (slice_cmp nat_cmp) q es) (find (slice_cmp nat_cmp) q fs)
find-append q [] fs = refl
find-append q (e ∷ es) fs = by (eq_by_cmp (slice_cmp nat_cmp) q e.0) (find-append q es fs)
  where
    by : (b : Bool) → find (slice_cmp nat_cmp) q (es ++ fs) ≡ option_or (find (slice_cmp nat_cmp) q es) (find (slice_cmp nat_cmp) q fs)
        → cond b (Some e.1) (find (slice_cmp nat_cmp) q (es ++ fs)) ≡ option_or (cond b (Some e.1) (find (slice_cmp nat_cmp) q es)) (find (slice_cmp nat_cmp) q fs)
    by true rest = refl
    by false rest = rest

module _ {N : Type 0} where
  pub get-both : (s l : KeysOf N) (q : List ℕ) → entry_at (both s l) q ≡ option_or (entry_at s q) (entry_at l q)
  get-both s l q =
      get-from_entries nat_list_cmp_total (finite.entries s ++ finite.entries l) q ∙ find-append q (finite.entries s) (finite.entries l)
      ∙ (λ i. option_or (sym (get-entries s q) i) (sym (get-entries l q) i))

  -- what a short name has is in the first table, and what a long one has in the other
  pub short_at : (s l : KeysOf N) (q : List ℕ) → AllLong l → is_short q ≡ true → entry_at (both s l) q ≡ entry_at s q
  short_at s l q all short = get-both s l q ∙ ap (option_or (entry_at s q)) (all q short) ∙ or_none (entry_at s q)

  pub long_at : (s l : KeysOf N) (q : List ℕ) → AllShort s → is_short q ≡ false → entry_at (both s l) q ≡ entry_at l q
  long_at s l q all long = get-both s l q ∙ ap (λ o. option_or o (entry_at l q)) (all q long)

  pub none_in_both : both {N = N} no_keys no_keys ≡ no_keys
  none_in_both = same_map nat_list_cmp_total exact_bytes _ _ (λ q.
      get-both no_keys no_keys q
      ∙ (λ i. option_or (get-empty {X = Entry N} (slice_cmp nat_cmp) q i) (get-empty {X = Entry N} (slice_cmp nat_cmp) q i))
      ∙ sym (get-empty (slice_cmp nat_cmp) q))

  pub none_short : AllShort {N = N} no_keys
  none_short q _ = get-empty (slice_cmp nat_cmp) q

  pub none_long : AllLong {N = N} no_keys
  none_long q _ = get-empty (slice_cmp nat_cmp) q

  pub short_put : (s : KeysOf N) (key : List ℕ) (entry : Entry N) → AllShort s → is_short key ≡ true → AllShort (with_entry s key entry)
  short_put s key entry all short q long = other_key s key q entry (lengths_differ q key long short) ∙ all q long

  pub long_put : (l : KeysOf N) (key : List ℕ) (entry : Entry N) → AllLong l → is_short key ≡ false → AllLong (with_entry l key entry)
  long_put l key entry all long q short = other_key l key q entry (λ same. lengths_differ key q long short (sym same)) ∙ all q short

  pub short_taken : (s : KeysOf N) (key : List ℕ) → AllShort s → AllShort (without s key)
  short_taken s key all q long = get-remove nat_list_cmp_total s key q ∙ still_none (is_same q key) (entry_at s q) (all q long)

  pub long_taken : (l : KeysOf N) (key : List ℕ) → AllLong l → AllLong (without l key)
  long_taken l key all q short = get-remove nat_list_cmp_total l key q ∙ still_none (is_same q key) (entry_at l q) (all q short)

  pub put_short : (s l : KeysOf N) (key : List ℕ) (entry : Entry N) → both (with_entry s key entry) l ≡ with_entry (both s l) key entry
  put_short s l key entry = same_map nat_list_cmp_total exact_bytes _ _ (λ q.
      get-both (with_entry s key entry) l q
      ∙ ap (λ o. option_or o (entry_at l q)) (get-insert nat_list_cmp_total s key entry q)
      ∙ by (is_same q key) (entry_at s q) (entry_at l q)
      ∙ sym (get-insert nat_list_cmp_total (both s l) key entry q ∙ ap (cond (is_same q key) (Some entry)) (get-both s l q)))
    where
      by : (b : Bool) (x y : Option (Entry N)) → option_or (cond b (Some entry) x) y ≡ cond b (Some entry) (option_or x y)
      by true x y = refl
      by false x y = refl

  pub put_long : (s l : KeysOf N) (key : List ℕ) (entry : Entry N) → AllShort s → is_short key ≡ false → both s (with_entry l key entry) ≡ with_entry (both s l) key entry
  put_long s l key entry all long = same_map nat_list_cmp_total exact_bytes _ _ (λ q.
      get-both s (with_entry l key entry) q
      ∙ ap (option_or (entry_at s q)) (get-insert nat_list_cmp_total l key entry q)
      ∙ by q (is_same q key) refl
      ∙ sym (get-insert nat_list_cmp_total (both s l) key entry q ∙ ap (cond (is_same q key) (Some entry)) (get-both s l q)))
    where
      by : (q : List ℕ) (b : Bool) → is_same q key ≡ b → option_or (entry_at s q) (cond b (Some entry) (entry_at l q)) ≡ cond b (Some entry) (option_or (entry_at s q) (entry_at l q))
      by q true same = ap (λ o. option_or o (Some entry)) (all q (ap is_short (same_name q key same) ∙ long))
      by q false apart = refl

  pub take_short : (s l : KeysOf N) (key : List ℕ) → AllLong l → is_short key ≡ true → both (without s key) l ≡ without (both s l) key
  take_short s l key all short = same_map nat_list_cmp_total exact_bytes _ _ (λ q.
      get-both (without s key) l q
      ∙ ap (λ o. option_or o (entry_at l q)) (get-remove nat_list_cmp_total s key q)
      ∙ by q (is_same q key) refl
      ∙ sym (get-remove nat_list_cmp_total (both s l) key q ∙ ap (cond (is_same q key) None) (get-both s l q)))
    where
      by : (q : List ℕ) (b : Bool) → is_same q key ≡ b → option_or (cond b None (entry_at s q)) (entry_at l q) ≡ cond b None (option_or (entry_at s q) (entry_at l q))
      by q true same = all q (ap is_short (same_name q key same) ∙ short)
      by q false apart = refl

  pub take_long : (s l : KeysOf N) (key : List ℕ) → AllShort s → is_short key ≡ false → both s (without l key) ≡ without (both s l) key
  take_long s l key all long = same_map nat_list_cmp_total exact_bytes _ _ (λ q.
      get-both s (without l key) q
      ∙ ap (option_or (entry_at s q)) (get-remove nat_list_cmp_total l key q)
      ∙ by q (is_same q key) refl
      ∙ sym (get-remove nat_list_cmp_total (both s l) key q ∙ ap (cond (is_same q key) None) (get-both s l q)))
    where
      by : (q : List ℕ) (b : Bool) → is_same q key ≡ b → option_or (entry_at s q) (cond b None (entry_at l q)) ≡ cond b None (option_or (entry_at s q) (entry_at l q))
      by q true same = ap (λ o. option_or o None) (all q (ap is_short (same_name q key same) ∙ long))
      by q false apart = refl

  -- what was left through what a table lent is put into both
  pub lent_short : (s l end keys : KeysOf N) (key name : List ℕ) (lent : Option (MutBor (Entry N))) (w : Entry N) → OnSome lent (end ≡ with_entry s name w) → name ≡ key → both s l ≡ keys
      → OnSome lent (both end l ≡ with_entry keys key w)
  lent_short s l end keys key name None w ends is all = tt
  lent_short s l end keys key name (Some r) w ends is all =
      ap (λ x. both x l) ends ∙ put_short s l name w ∙ (λ i. with_entry (all i) (is i) w)

  pub lent_long : (s l end keys : KeysOf N) (key : List ℕ) (lent : Option (MutBor (Entry N))) (w : Entry N) → OnSome lent (end ≡ with_entry l key w) → AllShort s → is_short key ≡ false → both s l ≡ keys
      → OnSome lent (both s end ≡ with_entry keys key w)
  lent_long s l end keys key None w ends all long is = tt
  lent_long s l end keys key (Some r) w ends all long is =
      ap (both s) ends ∙ put_long s l key w all long ∙ ap (λ m. with_entry m key w) is

  pub short_lent : (s end : KeysOf N) (key name : List ℕ) (lent : Option (MutBor (Entry N))) (r : MutBor (Entry N)) (w : Entry N) → lent ≡ Some r → OnSome lent (end ≡ with_entry s name w) → name ≡ key
      → AllShort s → is_short key ≡ true → AllShort end
  short_lent s end key name lent r w some ends is all short =
      subst AllShort (sym (subst (λ o. OnSome o (end ≡ with_entry s name w)) some ends ∙ ap (λ k. with_entry s k w) is)) (short_put s key w all short)

  pub long_lent : (l end : KeysOf N) (key : List ℕ) (lent : Option (MutBor (Entry N))) (r : MutBor (Entry N)) (w : Entry N) → lent ≡ Some r → OnSome lent (end ≡ with_entry l key w)
      → AllLong l → is_short key ≡ false → AllLong end
  long_lent l end key lent r w some ends all long =
      subst AllLong (sym (subst (λ o. OnSome o (end ≡ with_entry l key w)) some ends)) (long_put l key w all long)
