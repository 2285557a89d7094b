use Rattle.std.proofs.Common.{◌≡◌, map, drop}
use Rattle.std.specs.List.{list_any}
use Rattle.core_types.specs.CommandRow.{row_of_spec}
use Rattle.module_laws.specs.Sets.{has_command}
use Rattle.module_laws.proofs.joining.shares.Given as goal

abbrev pub invariant-loop-spec : goal.invariant-loop-spec
invariant-loop-spec g l =
    list_any (λ row. has_command g.B.ModuleSet.modules row.name) (map row_of_spec l.specs)
    ≡ list_any (λ row. has_command g.B.ModuleSet.modules row.name) (map row_of_spec (drop l.spec-index l.specs))
