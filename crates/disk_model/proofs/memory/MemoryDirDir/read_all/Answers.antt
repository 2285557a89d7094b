-- A read leaves the files as they were, so what it found stood in them before.
use Rattle.disk_model.specs.Memory.{telling}
use Rattle.disk_model.specs.Past.{Call}
use Rattle.disk_model.proofs.Failures.{was_done, was_failed, read_stays}
use Rattle.disk_model.proofs.Telling.{found_before}
use Rattle.disk_model.proofs.memory.MemoryDirDir.read_all.Goals as goal

pub returns-in_err-call-clause-same : goal.returns-in_err-call-clause-same
returns-in_err-call-clause-same c =
    read_stays c.args.name (telling c.args.self.now) (telling c.call.new.self)
    (was_failed (Call.ReadAll c.args.name) (telling c.args.self.now) (telling c.call.new.self) c.in_err-call.ensures.failed)

pub returns-in_err-copy-clause-same : goal.returns-in_err-copy-clause-same
returns-in_err-copy-clause-same c =
    read_stays c.args.name (telling c.args.self.now) (telling c.call.new.self)
    (was_done (Call.ReadAll c.args.name) (telling c.args.self.now) (telling c.call.new.self) c.in_ok-call.ensures.done)

pub returns-clause-same : goal.returns-clause-same
returns-clause-same c =
    read_stays c.args.name (telling c.args.self.now) (telling c.call.new.self)
    (was_done (Call.ReadAll c.args.name) (telling c.args.self.now) (telling c.call.new.self) c.in_ok-call.ensures.done)

pub returns-clause-content : goal.returns-clause-content
returns-clause-content c =
    found_before c.args.self.now c.call.new.self c.args.name c.in_ok-copy.field-0
    (read_stays c.args.name (telling c.args.self.now) (telling c.call.new.self)
    (was_done (Call.ReadAll c.args.name) (telling c.args.self.now) (telling c.call.new.self) c.in_ok-call.ensures.done))
    c.in_ok-copy.ensures.bytes
