use Rattle.std.proofs.Common.{◌≡◌, map, drop}
use Rattle.core_types.specs.CommandRow.{row_of_spec}
use Rattle.module_laws.specs.Sets.{has_row}
use Rattle.module_laws.proofs.joining.holds.Given as goal

abbrev pub invariant-loop-spec : goal.invariant-loop-spec
invariant-loop-spec l =
    has_row (map row_of_spec l.specs) l.name ≡ has_row (map row_of_spec (drop l.spec-index l.specs)) l.name
