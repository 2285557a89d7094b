-- The tree of the tickets on a key as the set of its keys. It serves the clauses of `Line`.
use Rattle.std.proofs.Common.{◌≡◌, ℕ, ◌+◌, ◌<◌, ◌≤◌, ◌==◌, Bool, true, false, cond, not, ◌||◌, ◌&&◌}
use Rattle.std.proofs.Common.{List, [], ◌∷◌, length, Option, None, Some, Bor, slice_get, nat_lt}
use Rattle.std.proofs.Common.{subst, add-one, refl, sym, ap, ◌∙◌, arith}
use Rattle.std.specs.declared.cmp.Ordering.TheVariants.{Less}
use Rattle.std.specs.Ordering.{nat_cmp, is_eq, is_gt, eq_by_cmp}
use Rattle.std.specs.Cmp.{nat_cmp_total, eq_by_cmp_equiv, unsigned_tied}
use Rattle.std.specs.List.{AllByRecursion, list_any}
use Rattle.std.specs.List.Sorted.{IsStrictlySortedBy}
use Rattle.std.specs.BTreeMap.{is_at}
use Rattle.std.specs.BTreeSet as tree
use Rattle.std.specs.BTreeSet.{BTreeSet, Updates, IsKeyRangeOf, IsKeyInRange}
use Rattle.std.specs.BTreeMap.Range.{IsLeBy}
use Rattle.std.specs.declared.ops.Bound.TheVariants.{Excluded, Unbounded}
use Rattle.std.specs.Option.{MatchOption, IfSome, option_copied}
use Rattle.std.proofs.lemmas.Bool.{false≢true}
use Rattle.std.proofs.lemmas.Bool.Decides.{nat_tests}
use Rattle.key_waiters.specs.inner.Places.{IsFirstOf}
use Rattle.std.specs.FinMap.{nat_cmp-IsAntisymmetric}
use Rattle.std.specs.FinSet as set
use Rattle.std.specs.FinSet.{from_list, contains-from_list, contains-insert, contains-remove}
use Rattle.std.specs.FinSet.{same_set}

-- the set has what the tree has
pub contains-tree : (s : BTreeSet ℕ) (n : ℕ)
    → set.contains (from_list {R = nat_cmp} s.keys) n ≡ tree.contains nat_cmp s n
contains-tree s n = contains-from_list nat_cmp_total s.keys n

or_cond : (b c : Bool) → cond b true c ≡ (b || c)
or_cond true c = refl
or_cond false c = refl

and_cond : (b c : Bool) → cond b false c ≡ (not b && c)
and_cond true c = refl
and_cond false c = refl

pub inserted : (s n : BTreeSet ℕ) (d : ℕ) → Updates nat_cmp s n d true
    → from_list {R = nat_cmp} n.keys ≡ set.insert (from_list s.keys) d
inserted s n d updates = same_set nat_cmp_total nat_cmp-IsAntisymmetric _ _ (λ q.
    contains-tree n q ∙ updates.0 q ∙ ap (cond (is_at (nat_cmp d) q) true) (sym (contains-tree s q))
    ∙ ap (λ b. cond b true (set.contains (from_list {R = nat_cmp} s.keys) q))
    ((eq_by_cmp_equiv nat_cmp_total).symm d q)
    ∙ or_cond (eq_by_cmp nat_cmp q d) (set.contains (from_list {R = nat_cmp} s.keys) q)
    ∙ sym (contains-insert nat_cmp_total (from_list s.keys) d q))

pub removed : (s n : BTreeSet ℕ) (d : ℕ) → Updates nat_cmp s n d false
    → from_list {R = nat_cmp} n.keys ≡ set.remove (from_list s.keys) d
removed s n d updates = same_set nat_cmp_total nat_cmp-IsAntisymmetric _ _ (λ q.
    contains-tree n q ∙ updates.0 q
    ∙ ap (cond (is_at (nat_cmp d) q) false) (sym (contains-tree s q))
    ∙ ap (λ b. cond b false (set.contains (from_list {R = nat_cmp} s.keys) q))
    ((eq_by_cmp_equiv nat_cmp_total).symm d q)
    ∙ and_cond (eq_by_cmp nat_cmp q d) (set.contains (from_list {R = nat_cmp} s.keys) q)
    ∙ sym (contains-remove nat_cmp_total (from_list s.keys) d q))

-- what a set has after a step, by numbers
pub with_ticket : (s : set.FinSet nat_cmp) (d q : ℕ)
    → set.contains (set.insert s d) q ≡ ((q == d) || set.contains s q)
with_ticket s d q = contains-insert nat_cmp_total s d q
    ∙ ap (λ b. b || set.contains s q) (unsigned_tied q d)

pub without_ticket : (s : set.FinSet nat_cmp) (d q : ℕ)
    → set.contains (set.remove s d) q ≡ (not (q == d) && set.contains s q)
without_ticket s d q = contains-remove nat_cmp_total s d q
    ∙ ap (λ b. not b && set.contains s q) (unsigned_tied q d)

none_at : (k : ℕ) (ks : List ℕ) → AllByRecursion (λ y. nat_cmp k y ≡ Less) ks
    → list_any (eq_by_cmp nat_cmp k) ks ≡ false
none_at k [] above = refl
none_at k (y ∷ ks) above = ap (λ o. is_eq o || list_any (eq_by_cmp nat_cmp k) ks) above.0
    ∙ none_at k ks above.1

-- the set has as many as the list of them, where they rise
pub len-sorted : (ks : List ℕ) → IsStrictlySortedBy nat_cmp ks
    → set.len (from_list {R = nat_cmp} ks) ≡ length ks
unfolding IsStrictlySortedBy
len-sorted [] rises = set.len-empty nat_cmp
len-sorted (k ∷ ks) rises =
    let rest = set.len (from_list {R = nat_cmp} ks) in
    set.len-insert nat_cmp_total (from_list ks) k
    ∙ ap (λ b. cond b rest (rest + 1))
    (contains-from_list nat_cmp_total ks k ∙ none_at k ks rises.0)
    ∙ ap (λ n. n + 1) (len-sorted ks rises.1) ∙ add-one (length ks)

-- what a part of the tree has first is the first above the number where the part begins
pub first_above : (s : BTreeSet ℕ) (above : ℕ) (part rest : List ℕ) (head : Option (Bor ℕ))
    → IsKeyRangeOf nat_cmp (Excluded above) Unbounded s part
    → MatchOption head ((part ≡ []) × (rest ≡ [])) (λ x. part ≡ x.now ∷ rest)
    → IsFirstOf (set.contains (from_list {R = nat_cmp} s.keys)) above (option_copied head)
first_above s above part rest None range empty = λ n there.
    elim (nat_lt above n) as (λ b. nat_lt above n ≡ b → n ≤ above) [
      | true ↦ λ more. absurd
          (false≢true (sym (range.5 empty.0 n (less above n more, tt)) ∙ sym (contains-tree s n)
          ∙ there))
      | false ↦ λ no_more. grind (arith, nat_tests)
    ] refl
  where
    less : (a b : ℕ) → nat_lt a b ≡ true → nat_cmp a b ≡ Less
    less a b more = grind (arith, nat_tests)
first_above s above part rest (Some x) range is =
    let first : slice_get part 0 ≡ Some x.now = ap (λ ks. slice_get ks 0) is in
    let here : IsKeyInRange nat_cmp (Excluded above) Unbounded s x.now =
    subst (λ o. IfSome o (IsKeyInRange nat_cmp (Excluded above) Unbounded s)) first range.1 in (
      contains-tree s x.now ∙ here.1,
      more above x.now here.0.0,
      λ n there higher. up x.now n
          (subst (λ o. IfSome o (λ k. IsLeBy nat_cmp k n)) first
          (range.2 n (less above n higher, tt) (sym (contains-tree s n) ∙ there))),
    )
  where
    more : (a b : ℕ) → nat_cmp a b ≡ Less → a < b
    more a b less = grind (arith, nat_tests)

    less : (a b : ℕ) → a < b → nat_cmp a b ≡ Less
    less a b more = grind (arith, nat_tests)

    up : (a b : ℕ) → is_gt (nat_cmp a b) ≡ false → a ≤ b
    up a b is = grind (arith, nat_tests)
