use Rattle.std.proofs.Common.{◌≡◌, map, drop}
use Rattle.core_types.specs.CommandRow.{row_of_spec}
use Rattle.module_laws.specs.Named.{row_named}
use Rattle.one_key.specs.OwnWords.{writes_by}
use Rattle.one_key.proofs.own.is_write.Given as goal

abbrev pub invariant-loop-spec : goal.invariant-loop-spec
invariant-loop-spec l =
    writes_by (row_named l.name (map row_of_spec l.commands)) l.words
    ≡ writes_by (row_named l.name (map row_of_spec (drop l.spec-index l.commands))) l.words
