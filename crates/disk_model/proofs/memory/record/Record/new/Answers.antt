-- A record that begins has the files that it begins with.
use Rattle.std.proofs.Common.{sym}
use Rattle.disk_model.proofs.Past.{files_at_first}
use Rattle.disk_model.proofs.memory.record.Record.new.Goals as goal

pub invariant_of-result : goal.invariant_of-result
invariant_of-result c = files_at_first c.args.files c.in_ok-copy.field-0 c.new.result.items c.in_ok-copy.ensures.same c.new.ensures.items

pub returns-clause-files : goal.returns-clause-files
returns-clause-files c = sym (files_at_first c.args.files c.in_ok-copy.field-0 c.new.result.items c.in_ok-copy.ensures.same c.new.ensures.items)
