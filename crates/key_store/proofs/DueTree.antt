-- The tree of the dues as the set of what its keys are seen as. Serves the clauses of `Dues`.
use Rattle.std.proofs.Common.{⊎_elim, ◌≡◌, refl, sym, ap, subst, ◌∙◌, arith, ℕ, Bool, true, false, cond, not, ◌||◌, ◌&&◌, List, [], ◌∷◌, map, length, Option, Some, None, IfSome, IsSome, ◌↔◌, ◌<◌, Bor}
use Rattle.std.specs.declared.cmp.Ordering.{Ordering}
use Rattle.std.specs.Ordering.{nat_cmp, eq_by_cmp, is_gt}
use Rattle.std.specs.Cmp.{IsTotalOrder, nat_cmp_total, eq_by_cmp_equiv}
use Rattle.std.specs.Cmp.Lexicographic.{slice_cmp, nat_list_cmp_total}
use Rattle.std.specs.Option.{option_map}
use Rattle.std.specs.List.{All, AllByRecursion, list_any}
use Rattle.std.specs.Set.{KeepsOthers}
use Rattle.std.specs.BTreeSet.{BTreeSet, btree_set_len, UpdatesBy}
use Rattle.std.specs.FinSet as set
use Rattle.std.specs.FinSet.{from_list, contains-from_list, contains-insert, contains-remove, same_set}
use Rattle.std.proofs.lemmas.Bool.{cases_Bool, cond-true, cond-false, false≢true}
use Rattle.std.proofs.lemmas.Cmp.{on_total, then_total}
use Rattle.std.proofs.lemmas.List.Elements.{recursion_from_All}
use Rattle.std.proofs.lemmas.Map.Lookups.{CmpEqualImpliesEq, exact_bytes, exact_pairs, exact_unsigned}
use Rattle.key_store.specs.NextDue.{Due}
use Rattle.key_store.specs.inner.Index.{due_cmp, IsEarliest}
use Rattle.key_store.proofs.Trees.{equal}

pub due_total : IsTotalOrder due_cmp
due_total = then_total (on_total (λ (d : Due). d.moment) nat_cmp_total) (on_total (λ (d : Due). d.key) nat_list_cmp_total)

-- dues that compare alike are one
pub due_exact : CmpEqualImpliesEq due_cmp
due_exact a b h =
    ap (λ (p : ℕ × List ℕ). record { key = p.1; moment = p.0 })
    (exact_pairs nat_cmp (slice_cmp nat_cmp) exact_unsigned exact_bytes (a.moment, a.key) (b.moment, b.key) h)

or_cond : (b c : Bool) → cond b true c ≡ (b || c)
or_cond true c = refl
or_cond false c = refl

and_cond : (b c : Bool) → cond b false c ≡ (not b && c)
and_cond true c = refl
and_cond false c = refl

module _ {K B : Type 0} {R : B → B → Ordering} (total : IsTotalOrder R) (exact : CmpEqualImpliesEq R) (read : K → B) where
  abbrev pub among : List K → B → Bool
  among ks q = list_any (λ k. eq_by_cmp R q (read k)) ks

  any_read : (ks : List K) (q : B) → list_any (eq_by_cmp R q) (map read ks) ≡ among ks q
  any_read [] q = refl
  any_read (k ∷ ks) q = ap (λ b. eq_by_cmp R q (read k) || b) (any_read ks q)

  -- the set has what the tree has
  pub contains-read : (ks : List K) (q : B) → set.contains (from_list {R = R} (map read ks)) q ≡ among ks q
  contains-read ks q = contains-from_list total (map read ks) q ∙ any_read ks q

  -- a change at one key, read at any
  among-changed : (s n : BTreeSet K) (key : B) (b : Bool) → UpdatesBy (λ x y. R (read x) (read y)) (λ k. R key (read k)) s n b
      → (q : B) → among n.keys q ≡ cond (eq_by_cmp R q key) b (among s.keys q)
  unfolding KeepsOthers
  among-changed s n key b updates q =
      let same = eq_by_cmp_equiv total in
      ⊎_elim
      (λ here. ap (among n.keys) (exact q key (equal (R q key) here)) ∙ updates.1 ∙ sym (cond-true (eq_by_cmp R q key) b (among s.keys q) here))
      (λ apart. updates.3 (λ k. eq_by_cmp R q (read k)) (λ x y. same.congr q (read x) (read y)) (λ k found. same.symm q (read k) ∙ sym (same.congr key (read k) q found) ∙ same.symm key q ∙ apart)
      ∙ sym (cond-false (eq_by_cmp R q key) b (among s.keys q) apart))
      (cases_Bool (eq_by_cmp R q key))

  -- what was put into the tree is put into the set
  pub inserted : (s n : BTreeSet K) (key : B) (dues : set.FinSet R) → UpdatesBy (λ x y. R (read x) (read y)) (λ k. R key (read k)) s n true
      → from_list {R = R} (map read s.keys) ≡ dues → from_list {R = R} (map read n.keys) ≡ set.insert dues key
  inserted s n key dues updates is = same_set total exact _ _ (λ q.
      contains-read n.keys q ∙ among-changed s n key true updates q ∙ or_cond (eq_by_cmp R q key) (among s.keys q)
      ∙ ap (λ b. eq_by_cmp R q key || b) (sym (contains-read s.keys q) ∙ ap (λ t. set.contains t q) is)
      ∙ sym (contains-insert total dues key q))

  -- and what was removed is removed
  pub removed : (s n : BTreeSet K) (key : B) (dues : set.FinSet R) → UpdatesBy (λ x y. R (read x) (read y)) (λ k. R key (read k)) s n false
      → from_list {R = R} (map read s.keys) ≡ dues → from_list {R = R} (map read n.keys) ≡ set.remove dues key
  removed s n key dues updates is = same_set total exact _ _ (λ q.
      contains-read n.keys q ∙ among-changed s n key false updates q ∙ and_cond (eq_by_cmp R q key) (among s.keys q)
      ∙ ap (λ b. not (eq_by_cmp R q key) && b) (sym (contains-read s.keys q) ∙ ap (λ t. set.contains t q) is)
      ∙ sym (contains-remove total dues key q))

  -- a list without items has none that is found
  none_in : (ks : List K) (q : B) → (0 < length ks → ⊥) → among ks q ≡ false
  none_in [] q none = refl
  none_in (k ∷ ks) q none = absurd (none (omega arith))

  -- what comes before all items comes before each that is found
  before_each : (first : B) (ks : List K) (q : B) → AllByRecursion (λ k. is_gt (R first (read k)) ≡ false) ks → among ks q ≡ true → is_gt (R first q) ≡ false
  before_each first [] q all found = absurd (false≢true found)
  before_each first (k ∷ ks) q all found = by (eq_by_cmp R q (read k)) refl (before_each first ks q all.1) found
    where
      by : (b : Bool) → eq_by_cmp R q (read k) ≡ b → (among ks q ≡ true → is_gt (R first q) ≡ false) → (b || among ks q) ≡ true → is_gt (R first q) ≡ false
      by true here _ _ = subst (λ x. is_gt (R first x) ≡ false) (sym (exact q (read k) (equal (R q (read k)) here))) all.0
      by false _ rest later = rest later

-- what the tree has first is the earliest of the set
pub earliest : {K : Type 0} (read : K → Due) (s : BTreeSet K) (first : Option (Bor K)) (dues : set.FinSet due_cmp) → (IsSome first ↔ (0 < btree_set_len s))
    → IfSome first (λ k. list_any (λ x. eq_by_cmp due_cmp (read k.now) (read x)) s.keys ≡ true) → IfSome first (λ k. All (λ x. is_gt (due_cmp (read k.now) (read x)) ≡ false) s.keys)
    → from_list {R = due_cmp} (map read s.keys) ≡ dues → IsEarliest dues (option_map (λ k. read k.now) first)
earliest read s None dues some member least is =
    λ d. ap (λ t. set.contains t d) (sym is) ∙ contains-read due_total due_exact read s.keys d ∙ none_in due_total due_exact read s.keys d (λ more. false≢true (some.1 more))
earliest read s (Some k) dues some member least is = (
  ap (λ t. set.contains t (read k.now)) (sym is) ∙ contains-read due_total due_exact read s.keys (read k.now) ∙ member,
  λ d there.
      before_each due_total due_exact read (read k.now) s.keys d (recursion_from_All (λ x. is_gt (due_cmp (read k.now) (read x)) ≡ false) s.keys least)
      (sym (contains-read due_total due_exact read s.keys d) ∙ ap (λ t. set.contains t d) is ∙ there),
)
