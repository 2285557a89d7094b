use Rattle.std.proofs.Common.{◌≡◌, ◌+◌, ◌*◌, ◌≤◌, length}
use Rattle.module_laws.specs.Sets.{command_count}
use Rattle.module_laws.proofs.Counting.{sum_from}
use Rattle.module_laws.proofs.joining.command_total.Given as goal

abbrev pub invariant-loop-place : goal.invariant-loop-place
invariant-loop-place g l =
    (l.total + sum_from (λ m. length m.rows) g.A.ModuleSet.modules.meaning_at g.A.ModuleSet.modules.size l.place ≡ command_count g.A.ModuleSet.modules)
    × (l.total ≤ 200 * l.place)
