-- A record that begins with no file has none.
use Rattle.std.proofs.Common.{sym, ◌∙◌}
use Rattle.disk_model.proofs.Past.{files_at_first}
use Rattle.disk_model.proofs.memory.record.Record.none.Goals as goal

pub invariant_of-result : goal.invariant_of-result
invariant_of-result c =
    files_at_first c.none-files.result c.none-began.result c.new.result.items
    (c.none-began.ensures.none ∙ sym c.none-files.ensures.none) c.new.ensures.items

pub returns-clause-files : goal.returns-clause-files
returns-clause-files c =
    sym (files_at_first c.none-files.result c.none-began.result c.new.result.items
    (c.none-began.ensures.none ∙ sym c.none-files.ensures.none) c.new.ensures.items)
    ∙ c.none-files.ensures.none
