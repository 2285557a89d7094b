-- What the files read as follows from what was done.
use Rattle.disk_model.specs.Memory.{telling}
use Rattle.disk_model.specs.Past.{Call}
use Rattle.disk_model.proofs.Failures.{was_made, sync_stays}
use Rattle.disk_model.proofs.memory.MemoryDirDir.sync.Goals as goal

pub returns-clause-same : goal.returns-clause-same
returns-clause-same c =
    sync_stays c.args.name (telling c.args.self.now) (telling c.call.new.self)
    (was_made c.call.result (Call.Sync c.args.name) (telling c.args.self.now) (telling c.call.new.self) c.call.ensures.done c.call.ensures.failed)
