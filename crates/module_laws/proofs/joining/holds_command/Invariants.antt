use Rattle.std.proofs.Common.{◌≡◌, ℕ, ◌<◌, false}
use Rattle.module_laws.specs.Sets.{has_row}
use Rattle.module_laws.proofs.joining.holds_command.Given as goal

abbrev pub invariant-loop-place : goal.invariant-loop-place
invariant-loop-place g l = (p : ℕ) → p < l.place → has_row (g.B.ModuleSet.modules.meaning_at p).rows l.name ≡ false
