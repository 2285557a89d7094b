-- What the steps of one call make of the keys. Serves the clauses of `Table::rename` and of the
-- calls of `KeyStore` that change a key in its place.
use Rattle.std.proofs.Common.{⊎_elim, ◌≡◌, ◌≢◌, refl, sym, ap, subst, ◌∙◌, ℕ, Bool, true, false, cond, List, Option, Some, None, IsSome, is_some, MutBor, Result, Ok, Err, OnOk, OnErr}
use Rattle.std.specs.Ordering.{nat_cmp, eq_by_cmp}
use Rattle.std.specs.Cmp.Lexicographic.{slice_cmp, nat_list_cmp_total}
use Rattle.std.specs.Option.{option_copied_mut, option_and_then, OnSome}
use Rattle.std.specs.Cmp.{eq_by_cmp_equiv}
use Rattle.std.specs.FinMap.{get-insert, get-remove, same_map}
use Rattle.std.proofs.lemmas.Bool.{cases_Bool, false≢true}
use Rattle.std.proofs.lemmas.Map.Lookups.{exact_bytes}
use Rattle.core_types.specs.declared.value.Value.{Value}
use Rattle.core_types.specs.Keys.{Entry, KeysOf, entry_at, deadline_at, with_entry, with_changed, with_due, with_deadline, without, with_moved, renamed}
use Rattle.key_store.specs.inner.Held.{held}
use Rattle.key_store.proofs.Trees.{equal}

abbrev pub is_same : List ℕ → List ℕ → Bool
is_same = eq_by_cmp (slice_cmp nat_cmp)

pub differs : (a b : List ℕ) → a ≢ b → is_same a b ≡ false
differs a b apart = ⊎_elim (λ same. absurd (apart (exact_bytes a b (equal (slice_cmp nat_cmp a b) same)))) (λ other. other) (cases_Bool (is_same a b))

over_held : {A : Type 0} (b c : Bool) (x y z n : A) → cond b x (cond c n (cond b y z)) ≡ cond b x (cond c n z)
over_held true c x y z n = refl
over_held false c x y z n = refl

twice : {A : Type 0} (b : Bool) (x y z : A) → cond b x (cond b y z) ≡ cond b x z
twice true x y z = refl
twice false x y z = refl

module _ {N : Type 0} where
  -- another key has what it had
  pub other_key : (keys : KeysOf N) (key other : List ℕ) (entry : Entry N) → other ≢ key → entry_at (with_entry keys key entry) other ≡ entry_at keys other
  other_key keys key other entry apart =
      get-insert nat_list_cmp_total keys key entry other ∙ ap (λ b. cond b (Some entry) (entry_at keys other)) (differs other key apart)

  pub other_left : (keys : KeysOf N) (key other : List ℕ) → other ≢ key → entry_at (without keys key) other ≡ entry_at keys other
  other_left keys key other apart = get-remove nat_list_cmp_total keys key other ∙ ap (λ b. cond b None (entry_at keys other)) (differs other key apart)

  pub this_key : (keys : KeysOf N) (key : List ℕ) (entry : Entry N) → entry_at (with_entry keys key entry) key ≡ Some entry
  this_key keys key entry =
      get-insert nat_list_cmp_total keys key entry key ∙ ap (λ b. cond b (Some entry) (entry_at keys key)) (itself key)
    where
      itself : (a : List ℕ) → is_same a a ≡ true
      itself a = (eq_by_cmp_equiv nat_list_cmp_total).refl a

  -- the first key is there where another's place is held
  pub still_there : (keys holding : KeysOf N) (from to : List ℕ) → IsSome (entry_at keys from) → from ≢ to → holding ≡ with_entry keys to held → entry_at holding from ≡ None → ⊥
  still_there keys holding from to there apart holds none =
      false≢true (ap is_some (sym none ∙ ap (λ k. entry_at k from) holds ∙ other_key keys to from held apart) ∙ there)

  -- the place is held until it is filled
  pub held_there : (keys holding left : KeysOf N) (from to : List ℕ) → from ≢ to → holding ≡ with_entry keys to held → left ≡ without holding from → entry_at left to ≡ Some held
  held_there keys holding left from to apart holds takes =
      ap (λ k. entry_at k to) takes ∙ other_left holding from to (λ same. apart (sym same)) ∙ ap (λ k. entry_at k to) holds ∙ this_key keys to held

  filled_over : (keys : KeysOf N) (from to : List ℕ) (entry : Entry N) → with_entry (without (with_entry keys to held) from) to entry ≡ with_entry (without keys from) to entry
  filled_over keys from to entry = same_map nat_list_cmp_total exact_bytes _ _ (λ q.
      let total = nat_list_cmp_total in
      get-insert total (without (with_entry keys to held) from) to entry q
      ∙ ap (cond (is_same q to) (Some entry)) (get-remove total (with_entry keys to held) from q ∙ ap (cond (is_same q from) None) (get-insert total keys to held q))
      ∙ over_held (is_same q to) (is_same q from) (Some entry) (Some held) (entry_at keys q) None
      ∙ sym (get-insert total (without keys from) to entry q ∙ ap (cond (is_same q to) (Some entry)) (get-remove total keys from q)))

  -- what the first key had is moved
  pub moved : (keys holding left : KeysOf N) (from to : List ℕ) (entry : Entry N) → from ≢ to → holding ≡ with_entry keys to held → left ≡ without holding from
      → Some entry ≡ entry_at holding from → with_entry left to entry ≡ renamed keys from to
  moved keys holding left from to entry apart holds takes found =
      ap (λ k. with_entry k to entry) (takes ∙ ap (λ k. without k from) holds)
      ∙ filled_over keys from to entry
      ∙ ap (with_moved keys from to) (found ∙ ap (λ k. entry_at k from) holds ∙ other_key keys to from held apart)

  -- a value that was left through what was lent is the key's
  pub changed : (keys end : KeysOf N) (key : List ℕ) (lent : Option (MutBor (Entry N))) (stored : MutBor (Entry N)) (left : Value N)
      → lent ≡ Some stored → option_copied_mut lent ≡ entry_at keys key → OnSome lent (end ≡ with_entry keys key (record stored.now { value = left })) → end ≡ with_changed keys key left
  changed keys end key lent stored left is found ends =
      subst (λ o. OnSome o (end ≡ with_entry keys key (record stored.now { value = left }))) is ends
      ∙ ap (λ o. with_entry keys key (record { value = left; deadline = option_and_then (λ e. e.deadline) o })) (ap option_copied_mut (sym is) ∙ found)

  -- and so is a deadline
  pub dated : (keys end : KeysOf N) (key : List ℕ) (at : Option ℕ) (lent : Option (MutBor (Entry N))) (stored : MutBor (Entry N)) (entry : Entry N)
      → lent ≡ Some stored → option_copied_mut lent ≡ entry_at keys key → OnSome lent (end ≡ with_entry keys key entry) → entry ≡ record stored.now { deadline = at } → end ≡ with_deadline keys key at
  dated keys end key at lent stored entry is found ends new =
      subst (λ o. OnSome o (end ≡ with_entry keys key entry)) is ends
      ∙ ap (with_entry keys key) new
      ∙ ap (with_due keys key at) (ap option_copied_mut (sym is) ∙ found)

  -- a key that gets what it has stays as it is
  pub same_again : (keys : KeysOf N) (key : List ℕ) (entry : Entry N) → entry_at keys key ≡ Some entry → with_entry keys key entry ≡ keys
  same_again keys key entry found = same_map nat_list_cmp_total exact_bytes _ _ (λ q. get-insert nat_list_cmp_total keys key entry q ∙ by q (is_same q key) refl)
    where
      by : (q : List ℕ) (b : Bool) → is_same q key ≡ b → cond b (Some entry) (entry_at keys q) ≡ entry_at keys q
      by q true same = sym found ∙ ap (entry_at keys) (sym (exact_bytes q key (equal (slice_cmp nat_cmp q key) same)))
      by q false apart = refl

  -- of two entries that a key gets, it has the later
  pub with_twice : (keys : KeysOf N) (key : List ℕ) (first then : Entry N) → with_entry (with_entry keys key first) key then ≡ with_entry keys key then
  with_twice keys key first then = same_map nat_list_cmp_total exact_bytes _ _ (λ q.
      get-insert nat_list_cmp_total (with_entry keys key first) key then q
      ∙ ap (cond (is_same q key) (Some then)) (get-insert nat_list_cmp_total keys key first q)
      ∙ twice (is_same q key) (Some then) (Some first) (entry_at keys q)
      ∙ sym (get-insert nat_list_cmp_total keys key then q))

  -- an entry that was exchanged is put back
  pub exchanged_back : (keys : KeysOf N) (key : List ℕ) (new before : Entry N) → Some before ≡ entry_at keys key → with_entry (with_entry keys key new) key before ≡ keys
  exchanged_back keys key new before was = with_twice keys key new before ∙ same_again keys key before (sym was)

  -- and so is a deadline
  pub dated_back : (keys : KeysOf N) (key : List ℕ) (at : Option ℕ) → with_deadline (with_deadline keys key at) key (deadline_at keys key) ≡ keys
  dated_back keys key at = by (entry_at keys key) refl
    where
      by : (o : Option (Entry N)) → entry_at keys key ≡ o → with_deadline (with_due keys key at o) key (option_and_then (λ (e : Entry N). e.deadline) o) ≡ keys
      by None is = ap (with_due keys key None) is
      by (Some e) is =
          let new : Entry N = record e { deadline = at } in
          ap (with_due (with_entry keys key new) key e.deadline) (this_key keys key new)
          ∙ with_twice keys key new e ∙ same_again keys key e is

-- what is there is one thing
pub some_injective : {A : Type 0} {a b : A} → Some a ≡ Some b → a ≡ b
some_injective {A} {a} {b} is = ap (λ (o : Option A). option_or_else o) is
  where
    option_or_else : Option A → A
    option_or_else None = a
    option_or_else (Some x) = x

pub on_ok : {A B P Q : Type 0} (r : Result A B) → (P → Q) → OnOk r P → OnOk r Q
on_ok (Ok a) gives p = gives p
on_ok (Err b) gives p = tt

pub on_err : {A B P Q : Type 0} (r : Result A B) → (P → Q) → OnErr r P → OnErr r Q
on_err (Ok a) gives p = tt
on_err (Err b) gives p = gives p
