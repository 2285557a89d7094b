-- What the files read as follows from what was done.
use Rattle.disk_model.specs.Memory.{telling}
use Rattle.disk_model.specs.Past.{Call}
use Rattle.disk_model.proofs.Failures.{was_made, names_sync_stays}
use Rattle.disk_model.proofs.memory.MemoryDirDir.sync_names.Goals as goal

pub returns-clause-same : goal.returns-clause-same
returns-clause-same c =
    names_sync_stays (telling c.args.self.now) (telling c.call.new.self)
    (was_made c.call.result Call.SyncNames (telling c.args.self.now) (telling c.call.new.self) c.call.ensures.done c.call.ensures.failed)
