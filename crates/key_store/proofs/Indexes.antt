-- What the steps of one call make of the index of the deadlines. Serves the invariant of
-- `KeyStore`.
use Rattle.std.proofs.Common.{◌≡◌, ◌≢◌, refl, sym, ap, subst, ◌∙◌, ℕ, ◌==◌, Bool, true, false, cond, not, ◌&&◌, ◌||◌, List, Option, Some, None, IsSome, eqb-true}
use Rattle.std.specs.declared.cmp.Ordering.{Ordering}
use Rattle.std.specs.declared.cmp.Ordering.TheVariants.{Less, Equal, Greater}
use Rattle.std.specs.Ordering.{nat_cmp, eq_by_cmp, is_eq, ordering_then}
use Rattle.std.specs.Cmp.{nat_eq_equiv, unsigned_tied}
use Rattle.std.specs.Cmp.Lexicographic.{slice_cmp, nat_list_cmp_total}
use Rattle.std.specs.Option.{option_and_then, option_map}
use Rattle.std.specs.FinMap.{get-empty, get-insert, get-remove}
use Rattle.std.specs.FinSet as set
use Rattle.std.specs.FinSet.{FinSet}
use Rattle.std.proofs.lemmas.Bool.{false≢true}
use Rattle.std.proofs.lemmas.Map.Lookups.{exact_bytes}
use Rattle.std.proofs.lemmas.Option.{none-some}
use Rattle.core_types.specs.declared.value.Value.{Value}
use Rattle.core_types.specs.Keys.{Entry, KeysOf, no_keys, entry_at, deadline_at, with_entry, with_value, with_changed, with_due, with_deadline, without, with_moved, renamed}
use Rattle.key_store.specs.NextDue.{Due}
use Rattle.key_store.specs.inner.Index.{due_cmp, entered, taken_out, is_at_moment, unless_same, Indexes, IsIndexed}
use Rattle.key_store.proofs.DueTree.{due_total}
use Rattle.key_store.proofs.Moves.{is_same, differs}
use Rattle.key_store.proofs.Trees.{equal}

is_eq-then : (x y : Ordering) → is_eq (ordering_then x y) ≡ (is_eq x && is_eq y)
is_eq-then Less y = refl
is_eq-then Equal y = refl
is_eq-then Greater y = refl

-- two dues tie where their moments and their keys are the same
tied : (a b : Due) → eq_by_cmp due_cmp a b ≡ ((a.moment == b.moment) && is_same a.key b.key)
tied a b =
    is_eq-then (nat_cmp a.moment b.moment) (slice_cmp nat_cmp a.key b.key)
    ∙ ap (λ x. x && is_same a.key b.key) (unsigned_tied a.moment b.moment)

-- whether this key at this deadline is the due
abbrev hits : List ℕ → Option ℕ → Due → Bool
hits key deadline due = is_at_moment deadline due.moment && is_same due.key key

contains-with : (dues : FinSet due_cmp) (key : List ℕ) (deadline : Option ℕ) (due : Due)
    → set.contains (entered dues key deadline) due ≡ (hits key deadline due || set.contains dues due)
contains-with dues key None due = refl
contains-with dues key (Some m) due =
    let new : Due = record { key = key; moment = m } in
    set.contains-insert due_total dues new due
    ∙ ap (λ b. b || set.contains dues due) (tied due new ∙ ap (λ b. b && is_same due.key key) (nat_eq_equiv.symm due.moment m))

contains-without : (dues : FinSet due_cmp) (key : List ℕ) (deadline : Option ℕ) (due : Due)
    → set.contains (taken_out dues key deadline) due ≡ (not (hits key deadline due) && set.contains dues due)
contains-without dues key None due = refl
contains-without dues key (Some m) due =
    let old : Due = record { key = key; moment = m } in
    set.contains-remove due_total dues old due
    ∙ ap (λ b. not b && set.contains dues due) (tied due old ∙ ap (λ b. b && is_same due.key key) (nat_eq_equiv.symm due.moment m))

unless-at : (deadline other : Option ℕ) (m : ℕ) → is_at_moment (unless_same deadline other) m ≡ (is_at_moment deadline m && not (is_at_moment other m))
unless-at None other m = refl
unless-at (Some a) None m = kept (a == m)
  where
    kept : (b : Bool) → b ≡ (b && true)
    kept true = refl
    kept false = refl
unless-at (Some a) (Some b) m =
    elim (a == b) as (λ t. (a == b) ≡ t → is_at_moment (cond t None (Some a)) m ≡ ((a == m) && not (b == m))) [
      | true ↦ λ same. let one : a ≡ b = eqb-true a b same in subst (λ x. false ≡ ((x == m) && not (b == m))) (sym one) (never (b == m))
      | false ↦ λ apart. other (a == m) (b == m) (λ here there. false≢true (sym apart ∙ ap (λ x. x == b) (eqb-true a m here) ∙ nat_eq_equiv.symm m b ∙ there))
    ] refl
  where
    never : (b : Bool) → false ≡ (b && not b)
    never true = refl
    never false = refl

    other : (x y : Bool) → (x ≡ true → y ≡ true → ⊥) → x ≡ (x && not y)
    other true true both = absurd (both refl refl)
    other true false both = refl
    other false y both = refl

-- with the part of a new deadline that is not the old one put in, and the part of the old that is
-- not the new taken out
swapped : (a b : Bool) → (not ((b && not a) && true) && (((a && not b) && true) || b)) ≡ a
swapped true true = refl
swapped true false = refl
swapped false true = refl
swapped false false = refl

untouched : (a b c : Bool) → (not (a && false) && ((b && false) || c)) ≡ c
untouched true true c = refl
untouched true false c = refl
untouched false true c = refl
untouched false false c = refl

put_back : (a b : Bool) → (not ((a && not b) && true) && (((a && not b) && true) || b)) ≡ b
put_back true true = refl
put_back true false = refl
put_back false true = refl
put_back false false = refl

gone : (a : Bool) → (not (a && true) && a) ≡ false
gone true = refl
gone false = refl

other_stays : (a c : Bool) → (not (a && false) && c) ≡ c
other_stays true c = refl
other_stays false c = refl

-- the deadlines with that of one key changed
abbrev pub with_at : (List ℕ → Option ℕ) → List ℕ → Option ℕ → List ℕ → Option ℕ
with_at deadline key at q = cond (is_same q key) at (deadline q)

same_key : (a b : List ℕ) → is_same a b ≡ true → a ≡ b
same_key a b is = exact_bytes a b (equal (slice_cmp nat_cmp a b) is)

pub indexes_same : (dues : FinSet due_cmp) (old new : List ℕ → Option ℕ) → Indexes dues old → ((q : List ℕ) → new q ≡ old q) → Indexes dues new
indexes_same dues old new agrees same due = agrees due ∙ ap (λ o. is_at_moment o due.moment) (sym (same due.key))

pub indexes_set : (dues : FinSet due_cmp) (deadline : List ℕ → Option ℕ) (key : List ℕ) (before at : Option ℕ) → Indexes dues deadline → deadline key ≡ before
    → Indexes (taken_out (entered dues key (unless_same at before)) key (unless_same before at)) (with_at deadline key at)
indexes_set dues deadline key before at agrees was due =
    let m = due.moment in
    contains-without (entered dues key (unless_same at before)) key (unless_same before at) due
    ∙ ap (λ b. not (hits key (unless_same before at) due) && b) (contains-with dues key (unless_same at before) due ∙ ap (λ b. hits key (unless_same at before) due || b) (agrees due))
    ∙ (λ i. not (unless-at before at m i && is_same due.key key) && ((unless-at at before m i && is_same due.key key) || is_at_moment (deadline due.key) m))
    ∙ by (is_same due.key key) refl
  where
    by : (b : Bool) → is_same due.key key ≡ b
        → (not ((is_at_moment before due.moment && not (is_at_moment at due.moment)) && b) && (((is_at_moment at due.moment && not (is_at_moment before due.moment)) && b) || is_at_moment (deadline due.key) due.moment))
        ≡ is_at_moment (cond b at (deadline due.key)) due.moment
    by true here =
        let is : deadline due.key ≡ before = ap deadline (same_key due.key key here) ∙ was in
        rw is (swapped (is_at_moment at due.moment) (is_at_moment before due.moment))
    by false apart = untouched (is_at_moment before due.moment && not (is_at_moment at due.moment)) (is_at_moment at due.moment && not (is_at_moment before due.moment)) (is_at_moment (deadline due.key) due.moment)

-- what was entered for a change is taken out again
pub indexes_unset : (dues : FinSet due_cmp) (deadline : List ℕ → Option ℕ) (key : List ℕ) (before at : Option ℕ) → Indexes dues deadline → deadline key ≡ before
    → Indexes (taken_out (entered dues key (unless_same at before)) key (unless_same at before)) deadline
indexes_unset dues deadline key before at agrees was due =
    let m = due.moment in
    contains-without (entered dues key (unless_same at before)) key (unless_same at before) due
    ∙ ap (λ b. not (hits key (unless_same at before) due) && b) (contains-with dues key (unless_same at before) due ∙ ap (λ b. hits key (unless_same at before) due || b) (agrees due))
    ∙ (λ i. not (unless-at at before m i && is_same due.key key) && ((unless-at at before m i && is_same due.key key) || is_at_moment (deadline due.key) m))
    ∙ by (is_same due.key key) refl
  where
    by : (b : Bool) → is_same due.key key ≡ b
        → (not ((is_at_moment at due.moment && not (is_at_moment before due.moment)) && b) && (((is_at_moment at due.moment && not (is_at_moment before due.moment)) && b) || is_at_moment (deadline due.key) due.moment))
        ≡ is_at_moment (deadline due.key) due.moment
    by true here =
        let is : deadline due.key ≡ before = ap deadline (same_key due.key key here) ∙ was in
        rw is (put_back (is_at_moment at due.moment) (is_at_moment before due.moment))
    by false apart = untouched (is_at_moment at due.moment && not (is_at_moment before due.moment)) (is_at_moment at due.moment && not (is_at_moment before due.moment)) (is_at_moment (deadline due.key) due.moment)

pub indexes_taken : (dues : FinSet due_cmp) (deadline : List ℕ → Option ℕ) (key : List ℕ) (before : Option ℕ) → Indexes dues deadline → deadline key ≡ before
    → Indexes (taken_out dues key before) (with_at deadline key None)
indexes_taken dues deadline key before agrees was due =
    contains-without dues key before due
    ∙ ap (λ b. not (hits key before due) && b) (agrees due)
    ∙ by (is_same due.key key) refl
  where
    by : (b : Bool) → is_same due.key key ≡ b
        → (not (is_at_moment before due.moment && b) && is_at_moment (deadline due.key) due.moment) ≡ is_at_moment (cond b None (deadline due.key)) due.moment
    by true here =
        let is : deadline due.key ≡ before = ap deadline (same_key due.key key here) ∙ was in
        rw is (gone (is_at_moment before due.moment))
    by false apart = other_stays (is_at_moment before due.moment) (is_at_moment (deadline due.key) due.moment)

-- ---- the deadlines of the keys after each step

module _ {N : Type 0} where
  abbrev pub deadline_in : Option (Entry N) → Option ℕ
  deadline_in entry = option_and_then (λ (e : Entry N). e.deadline) entry

  of_either : (b : Bool) (x y : Option (Entry N)) → deadline_in (cond b x y) ≡ cond b (deadline_in x) (deadline_in y)
  of_either true x y = refl
  of_either false x y = refl

  deadline-entry : (keys : KeysOf N) (key : List ℕ) (entry : Entry N) (q : List ℕ) → deadline_at (with_entry keys key entry) q ≡ with_at (deadline_at keys) key entry.deadline q
  deadline-entry keys key entry q = ap deadline_in (get-insert nat_list_cmp_total keys key entry q) ∙ of_either (is_same q key) (Some entry) (entry_at keys q)

  deadline-without : (keys : KeysOf N) (key q : List ℕ) → deadline_at (without keys key) q ≡ with_at (deadline_at keys) key None q
  deadline-without keys key q = ap deadline_in (get-remove nat_list_cmp_total keys key q) ∙ of_either (is_same q key) None (entry_at keys q)

  pub indexed_as : (dues dues' : FinSet due_cmp) (keys keys' : KeysOf N) → dues' ≡ dues → keys' ≡ keys → IsIndexed dues keys → IsIndexed dues' keys'
  indexed_as dues dues' keys keys' same_dues same_keys indexed = subst (λ d. IsIndexed d keys') (sym same_dues) (subst (IsIndexed dues) (sym same_keys) indexed)

  -- a key that has a value has an entry
  pub some_entry : (o : Option (Entry N)) → IsSome (option_map (λ e. e.value) o) → IsSome o
  some_entry None some = some
  some_entry (Some e) some = refl

  -- and one that has none has no entry
  pub no_entry : (o : Option (Entry N)) → option_map (λ e. e.value) o ≡ None → o ≡ None
  no_entry None none = refl
  no_entry (Some e) none = absurd (none-some e.value (sym none))

  -- a key is taken out
  pub indexed_taken : (dues : FinSet due_cmp) (keys : KeysOf N) (key : List ℕ) (before : Option ℕ) → IsIndexed dues keys → deadline_at keys key ≡ before
      → IsIndexed (taken_out dues key before) (without keys key)
  indexed_taken dues keys key before indexed was =
      indexes_same (taken_out dues key before) (with_at (deadline_at keys) key None) (deadline_at (without keys key)) (indexes_taken dues (deadline_at keys) key before indexed was) (deadline-without keys key)

  -- a key is put
  pub indexed_put : (dues : FinSet due_cmp) (keys : KeysOf N) (key : List ℕ) (value : Value N) (before : Option ℕ) → IsIndexed dues keys → deadline_at keys key ≡ before
      → IsIndexed (taken_out dues key before) (with_value keys key value)
  indexed_put dues keys key value before indexed was =
      indexes_same (taken_out dues key before) (with_at (deadline_at keys) key None) (deadline_at (with_value keys key value)) (indexes_taken dues (deadline_at keys) key before indexed was)
      (deadline-entry keys key (record { value = value; deadline = None }))

  -- a key that is not there was not entered
  pub indexed_absent : (dues : FinSet due_cmp) (keys : KeysOf N) (key : List ℕ) (before : Option ℕ) → IsIndexed dues keys → deadline_at keys key ≡ before → entry_at keys key ≡ None
      → IsIndexed (taken_out dues key before) keys
  indexed_absent dues keys key before indexed was absent =
      subst (λ o. IsIndexed (taken_out dues key o) keys) (sym (ap deadline_in absent) ∙ was) indexed

  -- a value is changed
  pub indexed_changed : (dues : FinSet due_cmp) (keys : KeysOf N) (key : List ℕ) (value : Value N) → IsIndexed dues keys → IsIndexed dues (with_changed keys key value)
  indexed_changed dues keys key value indexed =
      indexes_same dues (deadline_at keys) (deadline_at (with_changed keys key value)) indexed (λ q.
      deadline-entry keys key (record { value = value; deadline = deadline_at keys key }) q ∙ by q (is_same q key) refl)
    where
      by : (q : List ℕ) (b : Bool) → is_same q key ≡ b → cond b (deadline_at keys key) (deadline_at keys q) ≡ deadline_at keys q
      by q true here = ap (deadline_at keys) (sym (same_key q key here))
      by q false apart = refl

  -- a deadline is set
  pub indexed_set : (dues : FinSet due_cmp) (keys : KeysOf N) (key : List ℕ) (before at : Option ℕ) → IsIndexed dues keys → deadline_at keys key ≡ before → IsSome (entry_at keys key)
      → IsIndexed (taken_out (entered dues key (unless_same at before)) key (unless_same before at)) (with_deadline keys key at)
  indexed_set dues keys key before at indexed was there =
      let after = taken_out (entered dues key (unless_same at before)) key (unless_same before at) in
      indexes_same after (with_at (deadline_at keys) key at) (deadline_at (with_deadline keys key at)) (indexes_set dues (deadline_at keys) key before at indexed was) (by (entry_at keys key) there)
    where
      by : (o : Option (Entry N)) → IsSome o → (q : List ℕ) → deadline_at (with_due keys key at o) q ≡ with_at (deadline_at keys) key at q
      by None some q = absurd (false≢true some)
      by (Some e) some q = deadline-entry keys key (record e { deadline = at }) q

  -- a key is renamed
  pub indexed_renamed : (dues : FinSet due_cmp) (keys : KeysOf N) (from to : List ℕ) (moved there : Option ℕ) → IsIndexed dues keys → deadline_at keys from ≡ moved → deadline_at keys to ≡ there → IsSome (entry_at keys from) → from ≢ to
      → IsIndexed (taken_out (taken_out (entered dues to (unless_same moved there)) to (unless_same there moved)) from moved) (renamed keys from to)
  indexed_renamed dues keys from to moved there indexed was had some apart =
      let set_to = taken_out (entered dues to (unless_same moved there)) to (unless_same there moved) in
      let f = with_at (deadline_at keys) to moved in
      let still : f from ≡ moved = ap (λ b. cond b moved (deadline_at keys from)) (differs from to apart) ∙ was in
      indexes_same (taken_out set_to from moved) (with_at f from None) (deadline_at (renamed keys from to))
      (indexes_taken set_to f from moved (indexes_set dues (deadline_at keys) to there moved indexed had) still)
      (by (entry_at keys from) some was)
    where
      one_of : (q : List ℕ) (a b : Bool) → is_same q from ≡ a → is_same q to ≡ b → (x : Option ℕ) → cond b moved (cond a None x) ≡ cond a None (cond b moved x)
      one_of q true true is is' x = absurd (apart (sym (same_key q from is) ∙ same_key q to is'))
      one_of q true false is is' x = refl
      one_of q false b is is' x = refl

      by : (o : Option (Entry N)) → IsSome o → deadline_in o ≡ moved → (q : List ℕ) → deadline_at (with_moved keys from to o) q ≡ cond (is_same q from) None (cond (is_same q to) moved (deadline_at keys q))
      by None none is q = absurd (false≢true none)
      by (Some e) there is q =
          deadline-entry (without keys from) to e q
          ∙ ap (λ o. cond (is_same q to) o (deadline_at (without keys from) q)) is
          ∙ ap (cond (is_same q to) moved) (deadline-without keys from q)
          ∙ one_of q (is_same q from) (is_same q to) refl refl (deadline_at keys q)

-- no keys, and no deadlines
pub indexed_new : (N : Type 0) → IsIndexed set.empty (no_keys {N = N})
indexed_new N due = set.contains-empty due_cmp due ∙ ap (λ o. is_at_moment (deadline_in o) due.moment) (sym (get-empty (slice_cmp nat_cmp) due.key))
