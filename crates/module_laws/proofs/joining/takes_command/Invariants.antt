use Rattle.std.proofs.Common.{◌≡◌, ℕ, ◌<◌, false}
use Rattle.module_laws.specs.Sets.{shares_command}
use Rattle.module_laws.proofs.joining.takes_command.Given as goal

abbrev pub invariant-loop-place : goal.invariant-loop-place
invariant-loop-place g l =
    (p : ℕ) → p < l.place → shares_command (g.A.ModuleSet.modules.meaning_at p) g.B.ModuleSet.modules ≡ false
