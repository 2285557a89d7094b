-- A deadline and the number that stands for it. Serves the clauses of `Stored`.
use Rattle.std.proofs.Common.{◌≡◌, ◌≢◌, refl, ap, ◌==◌, true, false, cond, ℕ, Option, Some, None, arith}
use Rattle.std.specs.Option.{unwrap_or}
use Rattle.std.proofs.lemmas.Bool.Decides.{nat_tests}
use Rattle.key_store.specs.inner.Held.{deadline_of}

-- a deadline that is not 0 is what its number stands for
pub stands : (deadline : Option ℕ) → deadline ≢ Some 0 → deadline_of (unwrap_or deadline 0) ≡ deadline
stands None positive = refl
stands (Some n) positive =
    elim (n == 0) as (λ b. (n == 0) ≡ b → cond b None (Some n) ≡ Some n) [
      | true ↦ λ is. absurd (positive (ap Some (zero n is)))
      | false ↦ λ _. refl
    ] refl
  where
    zero : (n : ℕ) → (n == 0) ≡ true → n ≡ 0
    zero n is = grind (arith, nat_tests)
