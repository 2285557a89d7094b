-- What the files read as follows from what was done.
use Rattle.disk_model.specs.Memory.{telling}
use Rattle.disk_model.specs.Past.{Call}
use Rattle.disk_model.proofs.Failures.{done_reads}
use Rattle.disk_model.proofs.memory.MemoryDirDir.cut.Goals as goal

pub returns-clause-ok : goal.returns-clause-ok
returns-clause-ok c = done_reads c.call.result (Call.Cut c.args.name c.args.length) (telling c.args.self.now) (telling c.call.new.self) c.call.ensures.done
