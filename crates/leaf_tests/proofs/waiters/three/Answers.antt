-- Serves what `wait` requires: each ticket is above those that wait.
use Rattle.std.proofs.Common.{◌≡◌, ℕ, ◌==◌, ◌<◌, true, false, cond, List, None, Some, is_some}
use Rattle.std.proofs.Common.{IsSome, refl, sym, ap, ◌∙◌, arith, eqb-true}
use Rattle.std.specs.Ordering.{nat_cmp}
use Rattle.std.specs.Cmp.{nat_cmp_total, unsigned_tied}
use Rattle.std.specs.FinMap as map
use Rattle.std.proofs.lemmas.Bool.{false≢true}
use Rattle.key_waiters.specs.Waiting.{Waiting, key_at, nobody_waits, with_waiter}
use Rattle.leaf_tests.proofs.waiters.three.Goals as goal

abbrev Below : Waiting → ℕ → Type 0
Below m t = (n : ℕ) → IsSome (key_at m n) → n < t

below_new : (m : Waiting) (t : ℕ) → m ≡ nobody_waits → Below m t
below_new m t is n some =
    absurd (false≢true (sym
    (ap (λ (x : Waiting). is_some (key_at x n)) is ∙ ap is_some (map.get-empty nat_cmp n))
    ∙ some))

below_with : (m new : Waiting) (t u : ℕ) (key : List ℕ) → new ≡ with_waiter m t key → Below m t
    → t < u → Below new u
below_with m new t u key is below less n some =
    elim (n == t) as (λ b. (n == t) ≡ b → IsSome (cond b (Some key) (key_at m n)) → n < u) [
      | true ↦ λ here _. let same : n ≡ t = eqb-true n t here in omega arith
      | false ↦ λ _ there. let b = below n there in omega arith
    ] refl (sym (ap (λ (x : Waiting). is_some (key_at x n)) is
    ∙ ap is_some (map.get-insert nat_cmp_total m t key n
    ∙ ap (λ b. cond b (Some key) (map.get m n)) (unsigned_tied n t))) ∙ some)

pub wait-requires : goal.wait-requires
wait-requires c = record { above = below_new c.new-waiters.result 1 c.new-waiters.ensures.empty }

pub wait-requires-2 : goal.wait-requires-2
wait-requires-2 c =
    record {
      above = below_with c.new-waiters.result c.wait.new.self 1 2 _
          c.in_ok-wait.ensures.ok (below_new c.new-waiters.result 1 c.new-waiters.ensures.empty)
          (omega arith);
    }

pub wait-requires-3 : goal.wait-requires-3
wait-requires-3 c =
    record {
      above = below_with c.wait.new.self c.wait-2.new.self 2 5 _ c.in_ok-wait-2.ensures.ok
          (below_with c.new-waiters.result c.wait.new.self 1 2 _ c.in_ok-wait.ensures.ok
          (below_new c.new-waiters.result 1 c.new-waiters.ensures.empty) (omega arith))
          (omega arith);
    }
