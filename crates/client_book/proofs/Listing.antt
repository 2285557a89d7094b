-- Serves the clauses of `Watchers` on who stays listed.
use Rattle.std.proofs.Common.{◌≡◌, ◌⊎◌, inl, inr, ⊎_elim, refl, sym, ap, ◌∙◌, ℕ, Bool, true, false, cond, ◌||◌, List, [], ◌∷◌, ◌++◌, Option, arith, length}
use Rattle.std.specs.List.{list_any}
use Rattle.std.specs.Ordering.{nat_cmp, eq_by_cmp}
use Rattle.std.specs.Cmp.{eq_by_cmp_equiv}
use Rattle.std.specs.Cmp.Lexicographic.{slice_cmp, nat_list_cmp_total}
use Rattle.std.specs.Map.{KeepsOthers}
use Rattle.std.specs.BTreeMap.{BTreeMap, is_at, get_by, UpdatesBy}
use Rattle.std.specs.BTreeSet as set
use Rattle.std.specs.BTreeSet.{BTreeSet, contains, btree_set_len}
use Rattle.std.proofs.lemmas.Bool.{cases_Bool, cond-true, cond-false, false≢true}
use Rattle.std.proofs.lemmas.List.Folds.{list_any-append}
use Rattle.std.proofs.lemmas.Map.Lookups.{exact_bytes, exact_unsigned}
use Rattle.std.proofs.lemmas.Map.Views.{tells_apart}
use Rattle.client_book.specs.inner.Watching.{is_in}

-- whether two byte strings are one, as the tree compares them
abbrev pub is_same : List ℕ → List ℕ → Bool
is_same = eq_by_cmp (slice_cmp nat_cmp)

-- ---- one set of clients

true_of_test : (t b : Bool) → b ≡ true → cond t true b ≡ true
true_of_test true b is = refl
true_of_test false b is = is

pub kept-insert : (before now : BTreeSet ℕ) (client : ℕ) → set.Updates nat_cmp before now client true → (other : ℕ) → contains nat_cmp before other ≡ true → contains nat_cmp now other ≡ true
kept-insert before now client updates other had = updates.0 other ∙ true_of_test (is_at (nat_cmp client) other) _ had

left_of_test : (t b : Bool) (client other : ℕ) → (t ≡ true → client ≡ other) → b ≡ true → (cond t false b ≡ true) ⊎ (other ≡ client)
left_of_test true b client other same is = inr (sym (same refl))
left_of_test false b client other same is = inl is

pub kept-remove : (before now : BTreeSet ℕ) (client : ℕ) → set.Updates nat_cmp before now client false → (other : ℕ) → contains nat_cmp before other ≡ true → (contains nat_cmp now other ≡ true) ⊎ (other ≡ client)
kept-remove before now client updates other had =
    ⊎_elim (λ left. inl (updates.0 other ∙ left)) (λ gone. inr gone) (left_of_test (is_at (nat_cmp client) other) _ client other (λ t. tells_apart exact_unsigned client other t) had)

fewer_of_test : (t b : Bool) → cond t false b ≡ true → b ≡ true
fewer_of_test true b is = absurd (false≢true is)
fewer_of_test false b is = is

pub fewer-remove : (before now : BTreeSet ℕ) (client : ℕ)
    → set.Updates nat_cmp before now client false
    → (other : ℕ) → contains nat_cmp now other ≡ true → contains nat_cmp before other ≡ true
fewer-remove before now client updates other has =
    fewer_of_test (is_at (nat_cmp client) other) _ (sym (updates.0 other) ∙ has)

none_in_empty : (keys : List ℕ) (client : ℕ) → length keys ≡ 0 → Rattle.std.specs.List.list_any (is_at (nat_cmp client)) keys ≡ true → ⊥
none_in_empty [] client none had = absurd (false≢true had)
none_in_empty (k ∷ keys) client none had = absurd (omega arith)

pub none_listed : (clients : BTreeSet ℕ) (client : ℕ) → btree_set_len clients ≡ 0 → contains nat_cmp clients client ≡ true → ⊥
none_listed clients client none had = none_in_empty clients.keys client none had

-- ---- the sets of all keys, the keys read by their bytes

module _ {K : Type 0} (bytes : K → List ℕ) where
  abbrev pub at_key : BTreeMap K (BTreeSet ℕ) → List ℕ → Option (BTreeSet ℕ)
  at_key m key = get_by (λ k. slice_cmp nat_cmp key (bytes k)) m

  -- a change at one key, read at any
  at_key-changed : (m n : BTreeMap K (BTreeSet ℕ)) (key : List ℕ) (w : Option (BTreeSet ℕ)) → UpdatesBy (λ x y. slice_cmp nat_cmp (bytes x) (bytes y)) (λ k. slice_cmp nat_cmp key (bytes k)) m n w
      → (q : List ℕ) → at_key n q ≡ cond (is_same q key) w (at_key m q)
  unfolding KeepsOthers
  at_key-changed m n key w updates q =
      let same = eq_by_cmp_equiv nat_list_cmp_total in
      ⊎_elim
      (λ here. ap (at_key n) (tells_apart exact_bytes q key here) ∙ updates.1 ∙ sym (cond-true (is_same q key) w (at_key m q) here))
      (λ apart. updates.3 (λ k. is_same q (bytes k)) (λ x y. same.congr q (bytes x) (bytes y)) (λ k found. same.symm q (bytes k) ∙ sym (same.congr key (bytes k) q found) ∙ same.symm key q ∙ apart)
      ∙ sym (cond-false (is_same q key) w (at_key m q) apart))
      (cases_Bool (is_same q key))

  -- Who was listed still is, but at that key for those that left its set.
  pub kept-changed : (m n : BTreeMap K (BTreeSet ℕ)) (key : List ℕ) (w : Option (BTreeSet ℕ)) → UpdatesBy (λ x y. slice_cmp nat_cmp (bytes x) (bytes y)) (λ k. slice_cmp nat_cmp key (bytes k)) m n w
      → {leaves : ℕ → Type 0} → ((client : ℕ) → is_in (at_key m key) client ≡ true → (is_in w client ≡ true) ⊎ leaves client)
      → (q : List ℕ) (client : ℕ) → is_in (at_key m q) client ≡ true → (is_in (at_key n q) client ≡ true) ⊎ ((q ≡ key) × leaves client)
  kept-changed m n key w updates keeps q client had =
      ⊎_elim
      (λ here.
      let is : q ≡ key = tells_apart exact_bytes q key here in
      ⊎_elim
      (λ left. inl (ap (λ o. is_in o client) (at_key-changed m n key w updates q ∙ cond-true (is_same q key) w (at_key m q) here) ∙ left))
      (λ gone. inr (is, gone))
      (keeps client (ap (λ k. is_in (at_key m k) client) (sym is) ∙ had)))
      (λ apart. inl (ap (λ o. is_in o client) (at_key-changed m n key w updates q ∙ cond-false (is_same q key) w (at_key m q) apart) ∙ had))
      (cases_Bool (is_same q key))

  -- Who is listed was so before, where nobody came to the set of that key.
  pub fewer-changed : (m n : BTreeMap K (BTreeSet ℕ)) (key : List ℕ) (w : Option (BTreeSet ℕ))
      → UpdatesBy (λ x y. slice_cmp nat_cmp (bytes x) (bytes y))
      (λ k. slice_cmp nat_cmp key (bytes k)) m n w
      → ((client : ℕ) → is_in w client ≡ true → is_in (at_key m key) client ≡ true)
      → (q : List ℕ) (client : ℕ) → is_in (at_key n q) client ≡ true
      → is_in (at_key m q) client ≡ true
  fewer-changed m n key w updates fewer q client has =
      let changed = at_key-changed m n key w updates q in
      ⊎_elim
      (λ here.
      let set_is = changed ∙ cond-true (is_same q key) w (at_key m q) here in
      ap (λ k. is_in (at_key m k) client) (tells_apart exact_bytes q key here)
      ∙ fewer client (sym (ap (λ o. is_in o client) set_is) ∙ has))
      (λ apart.
      let set_is = changed ∙ cond-false (is_same q key) w (at_key m q) apart in
      sym (ap (λ o. is_in o client) set_is) ∙ has)
      (cases_Bool (is_same q key))

-- ---- a list of keys that grows

or_cases : (a b : Bool) → (a || b) ≡ true → (a ≡ true) ⊎ (b ≡ true)
or_cases true b is = inl refl
or_cases false b is = inr is

pub among_more : {K : Type 0} (bytes : K → List ℕ) (q : List ℕ) (keys : List K) (key : K)
    → list_any (λ k. is_same q (bytes k)) (keys ++ key ∷ []) ≡ true
    → (list_any (λ k. is_same q (bytes k)) keys ≡ true) ⊎ (q ≡ bytes key)
among_more bytes q keys key among =
    ⊎_elim (λ old. inl old)
    (λ last.
    ⊎_elim (λ here. inr (tells_apart exact_bytes q (bytes key) here))
    (λ none. absurd (false≢true none)) (or_cases (is_same q (bytes key)) false last))
    (or_cases _ _ (sym (list_any-append (λ k. is_same q (bytes k)) keys (key ∷ [])) ∙ among))

pub still_false : (before now : Bool) → (now ≡ true → before ≡ true) → before ≡ false
    → now ≡ false
still_false before true keeps none = sym (keeps refl) ∙ none
still_false before false keeps none = refl

pub only_left : {A : Type 0} → A ⊎ ⊥ → A
only_left (inl a) = a
only_left (inr none) = absurd none

pub only_left_of : {A B : Type 0} → A ⊎ (B × ⊥) → A
only_left_of (inl a) = a
only_left_of (inr none) = absurd none.1
