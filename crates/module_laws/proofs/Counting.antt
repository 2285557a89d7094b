-- Going through commands and modules one by one. Serves the clauses of the calls of joining.
use Rattle.std.proofs.Common.{◌≡◌, ℕ, suc, zero, ◌+◌, ◌-◌, ◌<◌, ◌≤◌, List, Bool, true, false, Option, Some, None, refl, ap, ◌∙◌, arith, map, length, drop, get_or}
use Rattle.std.specs.Prelude.{◌||◌, sum_by, is_some}
use Rattle.std.proofs.lemmas.List.Sums.{sum_by-cons}
use Rattle.std.specs.List.{list_any}
use Rattle.std.specs.Option.{option_map}
use Rattle.std.proofs.lemmas.List.{at_drop_more, at_drop_all}
use Rattle.module_laws.specs.Sets.{listed, held}
use Rattle.module_laws.specs.inner.TwoSets.{listed_same}

module _ {X Y : Type 0} (t : Y → Bool) (f : X → Y) (xs : List X) where
  -- what is passed over fails the test
  pub any_more : (i : ℕ) (d : X) → i < length xs → t (f (get_or xs i d)) ≡ false → list_any t (map f (drop i xs)) ≡ list_any t (map f (drop (i + 1) xs))
  any_more i d within fails =
      at_drop_more (λ ys. list_any t (map f ys)) xs i d within ∙ ap (λ b. b || list_any t (map f (drop (i + 1) xs))) fails

  pub any_found : (i : ℕ) (d : X) → i < length xs → t (f (get_or xs i d)) ≡ true → list_any t (map f (drop i xs)) ≡ true
  any_found i d within passes =
      at_drop_more (λ ys. list_any t (map f ys)) xs i d within ∙ ap (λ b. b || list_any t (map f (drop (i + 1) xs))) passes

  pub any_end : (i : ℕ) → length xs ≤ i → list_any t (map f (drop i xs)) ≡ false
  any_end i past = at_drop_all (λ ys. list_any t (map f ys)) xs i past

or_true : (a b : Bool) → b ≡ true → (a || b) ≡ true
or_true true b e = refl
or_true false b e = e

-- a test that passes at a place is passed by one
pub any_at : {X : Type 0} (t : X → Bool) (n : ℕ) (f : ℕ → X) (p : ℕ) → p < n → t (f p) ≡ true → list_any t (listed n f) ≡ true
any_at t zero f p within passes = absurd (none p within)
  where
    none : (p : ℕ) → p < 0 → ⊥
    none p within = omega arith
any_at t (suc n) f zero within passes = ap (λ b. b || list_any t (listed n (λ q. f (suc q)))) passes
any_at t (suc n) f (suc p) within passes =
    or_true (t (f 0)) _ (any_at t n (λ q. f (suc q)) p (omega (arith, within)) passes)

-- whether a place is told, whatever number it is told as
pub told_at : (told found : Option ℕ) → told ≡ option_map held found → is_some told ≡ is_some found
told_at told None e = ap is_some e
told_at told (Some p) e = ap is_some e

-- the sum over what stands at the places from one on
abbrev pub sum_from : {X : Type 0} → (X → ℕ) → (ℕ → X) → ℕ → ℕ → ℕ
sum_from f m size place = sum_by f (listed (size - place) (λ p. m (place + p)))

module _ {X : Type 0} (f : X → ℕ) (m : ℕ → X) where
  step_from : (left place : ℕ) → sum_by f (listed (suc left) (λ p. m (place + p))) ≡ f (m place) + sum_by f (listed left (λ p. m (place + 1 + p)))
  step_from left place =
      let first : place + 0 ≡ place = omega arith in
      sum_by-cons f (m (place + 0)) (listed left (λ p. m (place + suc p)))
      ∙ ap (λ k. f (m k) + sum_by f (listed left (λ p. m (place + suc p)))) first
      ∙ ap (λ ys. f (m place) + sum_by f ys) (listed_same left (λ p. m (place + suc p)) (λ p. m (place + 1 + p)) (λ p within. let same : place + suc p ≡ place + 1 + p = omega arith in ap m same))

  pub sum_step : (size place : ℕ) → place < size → sum_from f m size place ≡ f (m place) + sum_from f m size (place + 1)
  sum_step size place within =
      let left : size - place ≡ suc (size - (place + 1)) = omega (arith, within) in
      ap (λ n. sum_by f (listed n (λ p. m (place + p)))) left ∙ step_from (size - (place + 1)) place

  pub sum_whole : (size : ℕ) → sum_from f m size 0 ≡ sum_by f (listed size m)
  sum_whole size =
      let all : size - 0 ≡ size = omega arith in
      ap (λ n. sum_by f (listed n (λ p. m (0 + p)))) all ∙ ap (sum_by f) (listed_same size (λ p. m (0 + p)) m (λ p within. let same : 0 + p ≡ p = omega arith in ap m same))

  pub sum_end : (size place : ℕ) → size ≤ place → sum_from f m size place ≡ 0
  sum_end size place past =
      let none : size - place ≡ 0 = omega (arith, past) in ap (λ n. sum_by f (listed n (λ p. m (place + p)))) none
