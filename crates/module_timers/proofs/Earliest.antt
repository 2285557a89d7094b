-- The first of the tree that has come is the earliest of the set. It serves the clause of
-- `Dues::first`.
use Rattle.std.proofs.Common.{◌≡◌, ℕ, true, false, cond, ◌&&◌, ◌||◌, ◌≤◌, List, [], ◌∷◌, None, Some}
use Rattle.std.proofs.Common.{nat_le, nat_lt, refl, sym, ap, subst, ◌∙◌, arith}
use Rattle.std.specs.declared.cmp.Ordering.{Ordering}
use Rattle.std.specs.declared.cmp.Ordering.TheVariants.{Less, Equal, Greater}
use Rattle.std.specs.Ordering.{nat_cmp, is_gt, is_eq, ordering_then}
use Rattle.std.specs.Option.{MatchOption}
use Rattle.std.specs.List.{AllByRecursion, list_any}
use Rattle.std.specs.List.Sorted.{IsStrictlySortedBy}
use Rattle.std.specs.BTreeMap.{is_at}
use Rattle.std.specs.BTreeSet.{BTreeSet, IsOrdered}
use Rattle.std.specs.FinSet.{from_list}
use Rattle.std.specs.Cmp.{eq_by_cmp_equiv}
use Rattle.std.proofs.lemmas.Bool.{false≢true}
use Rattle.std.proofs.lemmas.Bool.Decides.{nat_tests}
use Rattle.module_timers.specs.declared.dues.Due.{Due}
use Rattle.module_timers.specs.Due.{due_cmp}
use Rattle.module_timers.specs.TimerTable.{has_come}
use Rattle.module_timers.specs.inner.Earliest.{IsEarliest, first_come}
use Rattle.module_timers.proofs.DueSet.{due_total, due_exact, contains-tree}
use Rattle.module_timers.proofs.Listed.{weaker}

abbrev None_come : ℕ → ℕ → List Due → Type 0
None_come now below ds = AllByRecursion (λ d. has_come now below d ≡ false) ds

-- one of the list that has come, and that none that has come is before
abbrev Leads : ℕ → ℕ → List Due → ℕ → Type 0
Leads now below ds t =
    (f : Due) × (f.timer ≡ t) × (list_any
    (is_at (due_cmp f)) ds ≡ true) × (has_come now below f ≡ true)
    × AllByRecursion (λ d. has_come now below d ≡ true → is_gt (due_cmp f d) ≡ false) ds

equal : (r : Ordering) → is_eq r ≡ true → r ≡ Equal
equal Less is = absurd (false≢true is)
equal Equal is = refl
equal Greater is = absurd (false≢true is)

not_after : (d y : Due) → due_cmp d y ≡ Less → is_gt (due_cmp d y) ≡ false
not_after d y less = ap is_gt less

-- one behind another has no earlier deadline
no_sooner : (d y : Due) → due_cmp d y ≡ Less → d.deadline ≤ y.deadline
no_sooner d y less = by (nat_cmp d.deadline y.deadline) refl less
  where
    by : (x : Ordering) → nat_cmp d.deadline y.deadline ≡ x
        → ordering_then x (nat_cmp d.timer y.timer) ≡ Less → d.deadline ≤ y.deadline
    by Less e h = grind (arith, nat_tests)
    by Equal e h = grind (arith, nat_tests)
    by Greater e h = cc

later : (now below : ℕ) (d y : Due) → nat_le d.deadline now ≡ false → due_cmp d y ≡ Less
    → has_come now below y ≡ false
later now below d y past less =
    let order = no_sooner d y less in
    let e : nat_le y.deadline now ≡ false = grind (arith, nat_tests) in
    ap (λ b. b && nat_lt y.timer below) e

in_front : (f d : Due) (ds : List Due) → list_any (is_at (due_cmp f)) ds ≡ true
    → list_any (is_at (due_cmp f)) (d ∷ ds) ≡ true
in_front f d ds there =
    elim (is_at (due_cmp f) d) as (λ b. (b || list_any (is_at (due_cmp f)) ds) ≡ true) [
      | true ↦ refl
      | false ↦ there
    ]

first : (d : Due) (ds : List Due) → list_any (is_at (due_cmp d)) (d ∷ ds) ≡ true
first d ds = ap (λ b. (b || list_any (is_at (due_cmp d)) ds)) ((eq_by_cmp_equiv due_total).refl d)

leads : (now below : ℕ) (ds : List Due) → IsStrictlySortedBy due_cmp ds
    → MatchOption (first_come now below ds) (None_come now below ds) (Leads now below ds)
unfolding IsStrictlySortedBy
leads now below [] rises = tt
leads now below (d ∷ ds) rises =
    elim (nat_le d.deadline now) as (λ b. nat_le d.deadline now ≡ b
    → MatchOption (cond b
    (cond (nat_lt d.timer below) (Some d.timer) (first_come now below ds)) None)
    (None_come now below (d ∷ ds)) (Leads now below (d ∷ ds))) [
      | true ↦ λ come. elim (nat_lt d.timer below) as (λ b. nat_lt d.timer below ≡ b
          → MatchOption (cond b (Some d.timer) (first_come now below ds))
          (None_come now below (d ∷ ds)) (Leads now below (d ∷ ds))) [
            | true ↦ λ low. (
              d,
              refl,
              first d ds,
              ap (λ b. b && nat_lt d.timer below) come ∙ low,
              (
                λ _. ap is_gt (equal (due_cmp d d) ((eq_by_cmp_equiv due_total).refl d)),
                weaker (λ y. due_cmp d y ≡ Less)
                    (λ y. has_come now below y ≡ true → is_gt (due_cmp d y) ≡ false)
                    (λ y less _. not_after d y less) ds rises.0,
              ),
            )
            | false ↦ λ high.
                let fails : has_come now below d ≡ false = ap (λ b. b && nat_lt d.timer below) come
                ∙ high in
                elim (first_come now below ds) as (λ o. MatchOption o (None_come now below ds)
                (Leads now below ds)
                → MatchOption o (None_come now below (d ∷ ds)) (Leads now below (d ∷ ds))) [
                  | None ↦ λ none. (fails, none)
                  | Some t ↦ λ found. (
                    found.0,
                    found.1,
                    in_front found.0 d ds found.2,
                    found.3,
                    (λ passes. absurd (false≢true (sym fails ∙ passes)), found.4),
                  )
                ] (leads now below ds rises.1)
          ] refl
      | false ↦ λ past. (
        ap (λ b. b && nat_lt d.timer below) past,
        weaker (λ y. due_cmp d y ≡ Less) (λ y. has_come now below y ≡ false)
            (λ y less. later now below d y past less) ds rises.0,
      )
    ] refl

-- what holds of each of the list holds of one that is in it
from_all : (P : Due → Type 0) (ds : List Due) (d : Due) → AllByRecursion P ds
    → list_any (is_at (due_cmp d)) ds ≡ true → P d
from_all P [] d all is = absurd (false≢true is)
from_all P (e ∷ ds) d all is =
    elim (is_at (due_cmp d) e) as (λ b. is_at (due_cmp d) e ≡ b
    → (b || list_any (is_at (due_cmp d)) ds) ≡ true → P d) [
      | true ↦ λ here _. subst P (sym (due_exact d e (equal (due_cmp d e) here))) all.0
      | false ↦ λ apart rest. from_all P ds d all.1 rest
    ] refl is

pub earliest : (s : BTreeSet Due) (now below : ℕ) → IsOrdered due_cmp s
    → IsEarliest (from_list {R = due_cmp} s.keys) now below (first_come now below s.keys)
earliest s now below rises =
    elim (first_come now below s.keys) as (λ o. MatchOption o (None_come now below s.keys)
    (Leads now below s.keys) → IsEarliest (from_list {R = due_cmp} s.keys) now below o) [
      | None ↦ λ none d there. from_all (λ y. has_come now below y ≡ false) s.keys d none
          (sym (contains-tree s d) ∙ there)
      | Some t ↦ λ found. (
        found.0,
        found.1,
        contains-tree s found.0 ∙ found.2,
        found.3,
        λ d there come. from_all
            (λ y. has_come now below y ≡ true
            → is_gt (due_cmp found.0 y) ≡ false) s.keys d found.4
            (sym (contains-tree s d) ∙ there) come,
      )
    ] (leads now below s.keys rises)
