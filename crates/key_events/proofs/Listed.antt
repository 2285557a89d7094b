-- What the entries of a finite map are found at. It serves the clause of `tell`.
use Rattle.std.proofs.Common.{◌≡◌, ℕ, Bool, true, false, cond, ◌&&◌, List, [], ◌∷◌}
use Rattle.std.proofs.Common.{Some, refl, ap, ◌∙◌}
use Rattle.std.specs.declared.cmp.Ordering.{Ordering}
use Rattle.std.specs.declared.cmp.Ordering.TheVariants.{Less, Equal, Greater}
use Rattle.std.specs.Ordering.{nat_cmp, is_eq, is_lt, ordering_reverse}
use Rattle.std.specs.List.{AllByRecursion}
use Rattle.std.specs.Cmp.{nat_cmp_total, nat_eq_equiv, unsigned_tied}
use Rattle.std.specs.FinMap as map
use Rattle.std.specs.FinMap.Entries as entries
use Rattle.std.proofs.lemmas.Bool.{false≢true}
use lib.Dec.{T}

weaker : {X : Type 0} (P Q : X → Type 0) → ((e : X) → P e → Q e) → (es : List X)
    → AllByRecursion P es → AllByRecursion Q es
weaker P Q gives [] all = tt
weaker P Q gives (e ∷ es) all = (gives e all.0, weaker P Q gives es all.1)

-- ---- the entries and the look-ups

module _ {X : Type 0} where
  -- an entry of the rest is found behind a first one that is below
  behind : (e : ℕ × X) (whole es : List (ℕ × X)) → T (entries.below_all nat_cmp e.0 es)
      → AllByRecursion (λ y. entries.find nat_cmp y.0 whole ≡ Some y.1) es
      → AllByRecursion (λ y. entries.find nat_cmp y.0 (e ∷ whole) ≡ Some y.1) es
  behind e whole [] below found = tt
  behind e whole (y ∷ es) below found =
      let first : is_lt (nat_cmp e.0 y.0) ≡ true =
      left (is_lt (nat_cmp e.0 y.0)) (entries.below_all nat_cmp e.0 es) below in
      let apart : is_eq (nat_cmp y.0 e.0) ≡ false = ap is_eq (nat_cmp_total.antisymm y.0 e.0)
      ∙ above (nat_cmp e.0 y.0) first in (
        ap (λ b. cond b (Some e.1) (entries.find nat_cmp y.0 whole)) apart ∙ found.0,
        behind e whole es (right (is_lt (nat_cmp e.0 y.0))
            (entries.below_all nat_cmp e.0 es) below) found.1,
      )
    where
      left : (a b : Bool) → T (a && b) → a ≡ true
      left true b t = refl
      left false b t = absurd t

      right : (a b : Bool) → T (a && b) → T b
      right true b t = t
      right false b t = absurd t

      above : (o : Ordering) → is_lt o ≡ true → is_eq (ordering_reverse o) ≡ false
      above Less e = refl
      above Equal e = absurd (false≢true e)
      above Greater e = absurd (false≢true e)

  all_found : (es : List (ℕ × X)) → T (entries.is_sorted nat_cmp es)
      → AllByRecursion (λ e. entries.find nat_cmp e.0 es ≡ Some e.1) es
  all_found [] rises = tt
  all_found (e ∷ es) rises = (
    ap (λ b. cond b (Some e.1) (entries.find nat_cmp e.0 es))
        (unsigned_tied e.0 e.0 ∙ nat_eq_equiv.refl e.0),
    behind e es es (left (entries.below_all nat_cmp e.0 es)
        (entries.is_sorted nat_cmp es) rises)
        (all_found es (right (entries.below_all nat_cmp e.0 es)
        (entries.is_sorted nat_cmp es) rises)),
  )
    where
      left : (a b : Bool) → T (a && b) → T a
      left true b t = tt
      left false b t = absurd t

      right : (a b : Bool) → T (a && b) → T b
      right true b t = t
      right false b t = absurd t

  -- each entry of a map is found at its key
  pub entries_found : (m : map.FinMap nat_cmp X)
      → AllByRecursion (λ e. map.get m e.0 ≡ Some e.1) (map.entries m)
  entries_found m = weaker (λ e. entries.find nat_cmp e.0 (map.entries m) ≡ Some e.1)
      (λ e. map.get m e.0 ≡ Some e.1) (λ e is. map.get-entries m e.0 ∙ is) (map.entries m)
      (all_found (map.entries m) (map.entries_sorted m))
