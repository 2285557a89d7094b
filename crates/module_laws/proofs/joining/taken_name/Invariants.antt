use Rattle.std.proofs.Common.{◌≡◌, ℕ, ◌<◌, false}
use Rattle.module_laws.specs.Sets.{has_name}
use Rattle.module_laws.proofs.joining.taken_name.Given as goal

abbrev pub invariant-loop-place : goal.invariant-loop-place
invariant-loop-place g l =
    (p : ℕ) → p < l.place → has_name g.B.ModuleSet.modules (g.A.ModuleSet.modules.meaning_at p).name ≡ false
