-- The entries of both tables as one list in order. Serves the clauses of `iter`, `pop_first`, `len`
-- and `close`.
use Rattle.std.proofs.Common.{◌≡◌, ◌≢◌, refl, sym, ap, subst, ◌∙◌, arith, ℕ, ◌+◌, suc, Bool, true, false, cond, ◌&&◌, List, [], ◌∷◌, ◌++◌, length, Option, Some, None, slice_get, true≢false}
use Rattle.std.specs.declared.cmp.Ordering.{Ordering}
use Rattle.std.specs.declared.cmp.Ordering.TheVariants.{Less, Equal, Greater}
use Rattle.std.specs.Ordering.{nat_cmp, is_lt, ordering_reverse}
use Rattle.std.specs.Cmp.Lexicographic.{slice_cmp, nat_list_cmp_total}
use Rattle.std.specs.Option.{option_map, MatchOption}
use Rattle.std.specs.List.{AllByRecursion, filter}
use Rattle.std.specs.FinMap as finite
use Rattle.std.specs.FinMap.{put, from_entries, entries-insert, get-from_entries, get-entries, len-entries, same_map}
use Rattle.std.specs.FinMap.Entries as sorted
use Rattle.std.specs.FinMap.Entries.{by_order}
use Rattle.std.proofs.lemmas.Bool.{false≢true}
use Rattle.std.proofs.lemmas.Map.Lookups.{exact_bytes}
use Rattle.std.proofs.lemmas.Option.{none-some}
use Rattle.core_types.specs.Keys.{Entry, KeysOf, entry_at, key_count, without}
use Rattle.key_store.specs.inner.Short.{is_short}
use Rattle.key_store.specs.inner.Starts.{entries_from, IsSameStart}
use Rattle.key_store.proofs.Listings.{same_passed}
use Rattle.std.specs.declared.ops.Bound.{Bound}
use Rattle.std.specs.BTreeMap.Range.{is_from_start}
use Rattle.key_store.specs.inner.Halves.{both, AllShort, AllLong, comes_first, onto, merged}
use Rattle.key_store.proofs.Halves.{long_taken, short_taken}
use Rattle.key_store.proofs.Soonest.{entries_found, first_found, weaker}
use Rattle.std.specs.Prelude.{⊤}
use lib.Dec.{T}

abbrev bytes_cmp : List ℕ → List ℕ → Ordering
bytes_cmp = slice_cmp nat_cmp

first_part : (a b : Bool) → T (a && b) → T a
first_part true b t = tt
first_part false b t = absurd t

second_part : (a b : Bool) → T (a && b) → T b
second_part true b t = t
second_part false b t = absurd t

less : (o : Ordering) → T (is_lt o) → o ≡ Less
less Less t = refl
less Equal t = absurd t
less Greater t = absurd t

is_less : (o : Ordering) → is_lt o ≡ true → o ≡ Less
is_less Less e = refl
is_less Equal e = absurd (false≢true e)
is_less Greater e = absurd (false≢true e)

-- of two names that differ, the one that is not below is above
is_above : (a b : List ℕ) → a ≢ b → is_lt (bytes_cmp a b) ≡ false → bytes_cmp b a ≡ Less
is_above a b apart not_less = nat_list_cmp_total.antisymm b a ∙ ap ordering_reverse (by (bytes_cmp a b) refl not_less)
  where
    by : (o : Ordering) → bytes_cmp a b ≡ o → is_lt o ≡ false → o ≡ Greater
    by Less is e = absurd (true≢false e)
    by Equal is e = absurd (apart (exact_bytes a b is))
    by Greater is e = refl

above : (a b : List ℕ) → bytes_cmp a b ≡ Less → bytes_cmp b a ≡ Greater
above a b is = nat_list_cmp_total.antisymm b a ∙ ap ordering_reverse is

module _ {X : Type 0} where
  -- each entry's name comes after this
  abbrev Behind : List ℕ → List (List ℕ × X) → Type 0
  Behind name es = AllByRecursion (λ (e : List ℕ × X). bytes_cmp name e.0 ≡ Less) es

  behind : (name : List ℕ) (es : List (List ℕ × X)) → T (sorted.below_all bytes_cmp name es) → Behind name es
  behind name [] below = tt
  behind name (e ∷ es) below = (less (bytes_cmp name e.0) (first_part _ _ below), behind name es (second_part _ _ below))

  further : (name other : List ℕ) (es : List (List ℕ × X)) → bytes_cmp name other ≡ Less → Behind other es → Behind name es
  further name other [] is all = tt
  further name other (e ∷ es) is all = (nat_list_cmp_total.trans name other e.0 is all.0, further name other es is all.1)

  -- the first comes after this
  abbrev Before : List ℕ → List (List ℕ × X) → Type 0
  Before name [] = ⊤
  Before name (e ∷ es) = bytes_cmp name e.0 ≡ Less

  -- the entries of one list put into another
  abbrev pub folded : List (List ℕ × X) → List (List ℕ × X) → List (List ℕ × X)
  folded [] fs = fs
  folded (e ∷ es) fs = put bytes_cmp e.0 e.1 (folded es fs)

  before_put : (name : List ℕ) (e : List ℕ × X) (fs : List (List ℕ × X)) → bytes_cmp name e.0 ≡ Less → Before name fs → Before name (put bytes_cmp e.0 e.1 fs)
  before_put name e [] is before = is
  before_put name e (f ∷ fs) is before =
      elim (bytes_cmp e.0 f.0) as (λ o. Before name (by_order o ((e.0, e.1) ∷ f ∷ fs) ((f.0, e.1) ∷ fs) (f ∷ put bytes_cmp e.0 e.1 fs))) [ Less ↦ is | Equal ↦ before | Greater ↦ before ]

  before_folded : (name : List ℕ) (es fs : List (List ℕ × X)) → Behind name es → Before name fs → Before name (folded es fs)
  before_folded name [] fs behind before = before
  before_folded name (e ∷ es) fs behind before = before_put name e (folded es fs) behind.0 (before_folded name es fs behind.1 before)

  put_first : (e : List ℕ × X) (fs : List (List ℕ × X)) → Before e.0 fs → put bytes_cmp e.0 e.1 fs ≡ e ∷ fs
  put_first e [] before = refl
  put_first e (f ∷ fs) before = ap (λ o. by_order o ((e.0, e.1) ∷ f ∷ fs) ((f.0, e.1) ∷ fs) (f ∷ put bytes_cmp e.0 e.1 fs)) before

  put_later : (e f : List ℕ × X) (fs : List (List ℕ × X)) → bytes_cmp f.0 e.0 ≡ Less → put bytes_cmp e.0 e.1 (f ∷ fs) ≡ f ∷ put bytes_cmp e.0 e.1 fs
  put_later e f fs is = ap (λ o. by_order o ((e.0, e.1) ∷ f ∷ fs) ((f.0, e.1) ∷ fs) (f ∷ put bytes_cmp e.0 e.1 fs)) (above f.0 e.0 is)

  -- what comes before all that are put stays the first
  folded_later : (f : List ℕ × X) (es fs : List (List ℕ × X)) → Behind f.0 es → folded es (f ∷ fs) ≡ f ∷ folded es fs
  folded_later f [] fs behind = refl
  folded_later f (e ∷ es) fs behind = ap (put bytes_cmp e.0 e.1) (folded_later f es fs behind.1) ∙ put_later e f (folded es fs) behind.0

  abbrev AreShort : List (List ℕ × X) → Type 0
  AreShort es = AllByRecursion (λ (e : List ℕ × X). is_short e.0 ≡ true) es

  abbrev AreLong : List (List ℕ × X) → Type 0
  AreLong fs = AllByRecursion (λ (f : List ℕ × X). is_short f.0 ≡ false) fs

  one_more : (e : List ℕ × X) (es fs : List (List ℕ × X)) → (folded_rest : (gs : List (List ℕ × X)) → AreLong gs → merged es gs ≡ folded es gs) → is_short e.0 ≡ true → Behind e.0 es → AreLong fs
      → onto e (merged es) fs ≡ put bytes_cmp e.0 e.1 (folded es fs)
  one_more e es [] rest short all long = ap (λ xs. e ∷ xs) (rest [] tt) ∙ sym (put_first e (folded es []) (before_folded e.0 es [] all tt))
  one_more e es (f ∷ fs) rest short all long = by (is_lt (bytes_cmp e.0 f.0)) refl (one_more e es fs rest short all long.1)
    where
      by : (b : Bool) → is_lt (bytes_cmp e.0 f.0) ≡ b → onto e (merged es) fs ≡ put bytes_cmp e.0 e.1 (folded es fs) → cond b (e ∷ merged es (f ∷ fs)) (f ∷ onto e (merged es) fs) ≡ put bytes_cmp e.0 e.1 (folded es (f ∷ fs))
      by true is later =
          ap (λ xs. e ∷ xs) (rest (f ∷ fs) long)
          ∙ sym (put_first e (folded es (f ∷ fs)) (before_folded e.0 es (f ∷ fs) all (is_less (bytes_cmp e.0 f.0) is)))
      by false is later =
          let over = is_above e.0 f.0 (λ same. true≢false (sym short ∙ ap is_short same ∙ long.0)) is in
          ap (λ xs. f ∷ xs) later
          ∙ sym (ap (put bytes_cmp e.0 e.1) (folded_later f es fs (further f.0 e.0 es over all)) ∙ put_later e f (folded es fs) over)

  -- in order, the merged entries are those of one list put into the other
  merged_folded : (es fs : List (List ℕ × X)) → T (sorted.is_sorted bytes_cmp es) → AreShort es → AreLong fs → merged es fs ≡ folded es fs
  merged_folded [] fs rises short long = refl
  merged_folded (e ∷ es) fs rises short long =
      one_more e es fs (λ gs lengths. merged_folded es gs (second_part _ _ rises) short.1 lengths) short.0 (behind e.0 es (first_part _ _ rises)) long

  folded_entries : (es : List (List ℕ × X)) (m : finite.FinMap bytes_cmp X) (fs : List (List ℕ × X)) → finite.entries (from_entries {R = bytes_cmp} fs) ≡ finite.entries m → finite.entries (from_entries {R = bytes_cmp} (es ++ fs)) ≡ folded es (finite.entries m)
  folded_entries [] m fs is = is
  folded_entries (e ∷ es) m fs is =
      entries-insert nat_list_cmp_total (from_entries {R = bytes_cmp} (es ++ fs)) e.0 e.1 ∙ ap (put bytes_cmp e.0 e.1) (folded_entries es m fs is)

  made_of_entries : (m : finite.FinMap bytes_cmp X) → from_entries {R = bytes_cmp} (finite.entries m) ≡ m
  made_of_entries m = same_map nat_list_cmp_total exact_bytes _ _ (λ q. get-from_entries nat_list_cmp_total (finite.entries m) q ∙ sym (get-entries m q))

  -- what is left of entries that come after a name comes after it
  behind_passed : (p : List ℕ × X → Bool) (name : List ℕ) (es : List (List ℕ × X)) → Behind name es → Behind name (filter p es)
  behind_passed p name [] all = tt
  behind_passed p name (e ∷ es) all = elim (p e) as (λ b. Behind name (cond b (e ∷ filter p es) (filter p es))) [ true ↦ (all.0, behind_passed p name es all.1) | false ↦ behind_passed p name es all.1 ]

  -- what comes before all of one list stays before them
  merged_later : (f : List ℕ × X) (es fs : List (List ℕ × X)) → Behind f.0 es → merged es (f ∷ fs) ≡ f ∷ merged es fs
  merged_later f [] fs all = refl
  merged_later f (e ∷ es) fs all = ap (λ o. cond (is_lt o) (e ∷ merged es (f ∷ fs)) (f ∷ onto e (merged es) fs)) (above f.0 e.0 all.0)

  -- and what comes before all of the other
  onto_first : (e : List ℕ × X) (es fs : List (List ℕ × X)) → Behind e.0 fs → onto e (merged es) fs ≡ e ∷ merged es fs
  onto_first e es [] all = refl
  onto_first e es (f ∷ fs) all = ap (λ o. cond (is_lt o) (e ∷ merged es (f ∷ fs)) (f ∷ onto e (merged es) fs)) all.0

  one_passed : (p : List ℕ × X → Bool) (e : List ℕ × X) (es fs : List (List ℕ × X)) → ((gs : List (List ℕ × X)) → T (sorted.is_sorted bytes_cmp gs) → AreLong gs → filter p (merged es gs) ≡ merged (filter p es) (filter p gs))
      → is_short e.0 ≡ true → Behind e.0 es → T (sorted.is_sorted bytes_cmp fs) → AreLong fs
      → filter p (onto e (merged es) fs) ≡ merged (filter p (e ∷ es)) (filter p fs)
  one_passed p e es [] rest short all rises long = by (p e)
    where
      by : (b : Bool) → cond b (e ∷ filter p (merged es [])) (filter p (merged es [])) ≡ merged (cond b (e ∷ filter p es) (filter p es)) []
      by true = ap (λ xs. e ∷ xs) (rest [] rises tt)
      by false = rest [] rises tt
  one_passed p e es (f ∷ fs) rest short all rises long = by (is_lt (bytes_cmp e.0 f.0)) refl (one_passed p e es fs rest short all (second_part _ _ rises) long.1)
    where
      first : bytes_cmp e.0 f.0 ≡ Less → (b : Bool) → cond b (e ∷ filter p (merged es (f ∷ fs))) (filter p (merged es (f ∷ fs))) ≡ merged (cond b (e ∷ filter p es) (filter p es)) (filter p (f ∷ fs))
      first is true =
          let behind_e : Behind e.0 (f ∷ fs) = (is, further e.0 f.0 fs is (behind f.0 fs (first_part _ _ rises))) in
          ap (λ xs. e ∷ xs) (rest (f ∷ fs) rises long) ∙ sym (onto_first e (filter p es) (filter p (f ∷ fs)) (behind_passed p e.0 (f ∷ fs) behind_e))
      first is false = rest (f ∷ fs) rises long

      later : bytes_cmp f.0 e.0 ≡ Less → filter p (onto e (merged es) fs) ≡ merged (filter p (e ∷ es)) (filter p fs) → (b : Bool) → cond b (f ∷ filter p (onto e (merged es) fs)) (filter p (onto e (merged es) fs)) ≡ merged (filter p (e ∷ es)) (cond b (f ∷ filter p fs) (filter p fs))
      later over then true = ap (λ xs. f ∷ xs) then ∙ sym (merged_later f (filter p (e ∷ es)) (filter p fs) (behind_passed p f.0 (e ∷ es) (over, further f.0 e.0 es over all)))
      later over then false = then

      by : (b : Bool) → is_lt (bytes_cmp e.0 f.0) ≡ b → filter p (onto e (merged es) fs) ≡ merged (filter p (e ∷ es)) (filter p fs) → filter p (cond b (e ∷ merged es (f ∷ fs)) (f ∷ onto e (merged es) fs)) ≡ merged (filter p (e ∷ es)) (filter p (f ∷ fs))
      by true is then = first (is_less (bytes_cmp e.0 f.0) is) (p e)
      by false is then = later (is_above e.0 f.0 (λ same. true≢false (sym short ∙ ap is_short same ∙ long.0)) is) then (p f)

  -- the part of the merged entries that passes a test is the parts of both, merged
  pub merged_passed : (p : List ℕ × X → Bool) (es fs : List (List ℕ × X)) → T (sorted.is_sorted bytes_cmp es) → AreShort es → T (sorted.is_sorted bytes_cmp fs) → AreLong fs → filter p (merged es fs) ≡ merged (filter p es) (filter p fs)
  merged_passed p [] fs rises short rise long = refl
  merged_passed p (e ∷ es) fs rises short rise long =
      one_passed p e es fs (λ gs ordered lengths. merged_passed p es gs (second_part _ _ rises) short.1 ordered lengths) short.0 (behind e.0 es (first_part _ _ rises)) rise long

  onto_length : (e : List ℕ × X) (rest : List (List ℕ × X) → List (List ℕ × X)) (n : ℕ) → ((gs : List (List ℕ × X)) → length (rest gs) ≡ n + length gs) → (fs : List (List ℕ × X)) → length (onto e rest fs) ≡ suc n + length fs
  onto_length e rest n is [] =
      let here = is [] in
      omega (arith, here)
  onto_length e rest n is (f ∷ fs) = by (is_lt (bytes_cmp e.0 f.0)) (is (f ∷ fs)) (onto_length e rest n is fs)
    where
      by : (b : Bool) → length (rest (f ∷ fs)) ≡ n + length (f ∷ fs) → length (onto e rest fs) ≡ suc n + length fs → length (cond b (e ∷ rest (f ∷ fs)) (f ∷ onto e rest fs)) ≡ suc n + suc (length fs)
      by true here later = omega (arith, here)
      by false here later = omega (arith, later)

  merged_length : (es fs : List (List ℕ × X)) → length (merged es fs) ≡ length es + length fs
  merged_length [] fs = omega arith
  merged_length (e ∷ es) fs = onto_length e (merged es) (length es) (merged_length es) fs

  -- the first of the merged entries
  pub merged_first : (es fs : List (List ℕ × X)) → slice_get (merged es fs) 0 ≡ cond (comes_first (option_map (λ (e : List ℕ × X). e.0) (slice_get es 0)) (option_map (λ (e : List ℕ × X). e.0) (slice_get fs 0))) (slice_get es 0) (slice_get fs 0)
  merged_first [] fs = refl
  merged_first (e ∷ es) [] = refl
  merged_first (e ∷ es) (f ∷ fs) = by (is_lt (bytes_cmp e.0 f.0))
    where
      by : (b : Bool) → slice_get (cond b (e ∷ merged es (f ∷ fs)) (f ∷ onto e (merged es) fs)) 0 ≡ cond b (Some e) (Some f)
      by true = refl
      by false = refl

module _ {N : Type 0} where
  entries_short : (s : KeysOf N) → AllShort s → AreShort (finite.entries s)
  entries_short s all = weaker (λ e. entry_at s e.0 ≡ Some e.1) (λ e. is_short e.0 ≡ true) (λ e found. by e found (is_short e.0) refl) (finite.entries s) (entries_found 0 s)
    where
      by : (e : List ℕ × Entry N) → entry_at s e.0 ≡ Some e.1 → (b : Bool) → is_short e.0 ≡ b → b ≡ true
      by e found true is = refl
      by e found false is = absurd (none-some e.1 (sym (all e.0 is) ∙ found))

  entries_long : (l : KeysOf N) → AllLong l → AreLong (finite.entries l)
  entries_long l all = weaker (λ e. entry_at l e.0 ≡ Some e.1) (λ e. is_short e.0 ≡ false) (λ e found. by e found (is_short e.0) refl) (finite.entries l) (entries_found 0 l)
    where
      by : (e : List ℕ × Entry N) → entry_at l e.0 ≡ Some e.1 → (b : Bool) → is_short e.0 ≡ b → b ≡ false
      by e found true is = absurd (none-some e.1 (sym (all e.0 is) ∙ found))
      by e found false is = refl

  pub both_entries : (s l : KeysOf N) → AllShort s → AllLong l → finite.entries (both s l) ≡ merged (finite.entries s) (finite.entries l)
  both_entries s l short long =
      folded_entries (finite.entries s) l (finite.entries l) (ap finite.entries (made_of_entries l))
      ∙ sym (merged_folded (finite.entries s) (finite.entries l) (finite.entries_sorted s) (entries_short s short) (entries_long l long))

  pub both_passed : (s l : KeysOf N) (p : List ℕ × Entry N → Bool) → AllShort s → AllLong l → filter p (finite.entries (both s l)) ≡ merged (filter p (finite.entries s)) (filter p (finite.entries l))
  both_passed s l p short long =
      ap (filter p) (both_entries s l short long)
      ∙ merged_passed p (finite.entries s) (finite.entries l) (finite.entries_sorted s) (entries_short s short) (finite.entries_sorted l) (entries_long l long)

  -- the short names of a table from one start on are those from another that is the same for them
  pub same_short : (s : KeysOf N) (start other : Bound (List ℕ)) → AllShort s → IsSameStart start other → entries_from s start ≡ entries_from s other
  same_short s start other short same =
      same_passed (λ e. is_from_start bytes_cmp start e.0) (λ e. is_from_start bytes_cmp other e.0) (finite.entries s)
      (weaker (λ e. is_short e.0 ≡ true) (λ e. is_from_start bytes_cmp start e.0 ≡ is_from_start bytes_cmp other e.0) (λ e is. same e.0 is) (finite.entries s) (entries_short s short))

  pub both_count : (s l : KeysOf N) → AllShort s → AllLong l → key_count (both s l) ≡ key_count s + key_count l
  both_count s l short long =
      len-entries (both s l) ∙ ap length (both_entries s l short long) ∙ merged_length (finite.entries s) (finite.entries l)
      ∙ (λ i. sym (len-entries s) i + sym (len-entries l) i)

  -- the first of all is the first of the one table or of the other
  pub both_first : (s l keys : KeysOf N) (b : Bool) → AllShort s → AllLong l → both s l ≡ keys
      → comes_first (option_map (λ (e : List ℕ × Entry N). e.0) (slice_get (finite.entries s) 0)) (option_map (λ (e : List ℕ × Entry N). e.0) (slice_get (finite.entries l) 0)) ≡ b
      → cond b (slice_get (finite.entries s) 0) (slice_get (finite.entries l) 0) ≡ slice_get (finite.entries keys) 0
  both_first s l keys b short long is first =
      sym (ap (λ c. cond c (slice_get (finite.entries s) 0) (slice_get (finite.entries l) 0)) first)
      ∙ sym (merged_first (finite.entries s) (finite.entries l))
      ∙ ap (λ es. slice_get es 0) (sym (both_entries s l short long))
      ∙ ap (λ m. slice_get (finite.entries m) 0) is

  -- what a table has first is of its own
  pub first_short : (s : KeysOf N) (name : List ℕ) (e : Entry N) → AllShort s → Some (name, e) ≡ slice_get (finite.entries s) 0 → is_short name ≡ true
  first_short s name e all first = by (is_short name) refl
    where
      by : (b : Bool) → is_short name ≡ b → b ≡ true
      by true is = refl
      by false is = absurd (none-some e (sym (all name is) ∙ first_found s (name, e) (sym first)))

  pub first_long : (l : KeysOf N) (name : List ℕ) (e : Entry N) → AllLong l → Some (name, e) ≡ slice_get (finite.entries l) 0 → is_short name ≡ false
  first_long l name e all first = by (is_short name) refl
    where
      by : (b : Bool) → is_short name ≡ b → b ≡ false
      by true is = absurd (none-some e (sym (all name is) ∙ first_found l (name, e) (sym first)))
      by false is = refl

  pub short_popped : (s n : KeysOf N) (taken : Option (List ℕ × Entry N)) → MatchOption taken (n ≡ s) (λ p. n ≡ without s p.0) → AllShort s → AllShort n
  short_popped s n None rest all = subst AllShort (sym rest) all
  short_popped s n (Some p) rest all = subst AllShort (sym rest) (short_taken s p.0 all)

  pub long_popped : {K : Type 0} (read : K → List ℕ) (l n : KeysOf N) (taken : Option (K × Entry N)) → MatchOption taken (n ≡ l) (λ p. n ≡ without l (read p.0)) → AllLong l → AllLong n
  long_popped read l n None rest all = subst AllLong (sym rest) all
  long_popped read l n (Some p) rest all = subst AllLong (sym rest) (long_taken l (read p.0) all)
