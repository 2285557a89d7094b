-- What the files read as follows from what was done, and no file is too long.
use Rattle.std.proofs.Common.{◌≡◌, ℕ, List, OnOk, subst, rules}
use Rattle.disk_model.specs.Files.{with_appended, Become}
use Rattle.disk_model.specs.Memory.{telling}
use Rattle.disk_model.specs.Past.{Call}
use Rattle.disk_model.specs.Told.{files_told}
use Rattle.disk_model.proofs.Failures.{done_reads}
use Rattle.disk_model.proofs.Telling.{small_ok, small_err, small_kept}
use Rattle.disk_model.proofs.memory.MemoryDirDir.append.Goals as goal

pub returns-in-Ok-clause-ok : goal.returns-in-Ok-clause-ok
returns-in-Ok-clause-ok c =
    let old = telling c.args.self.now in
    let new = telling c.call.new.self in
    let P : List ℕ → Type 0 = λ bytes. OnOk c.call.result (Become (with_appended c.args.name bytes) (files_told old) (files_told new)) in
    subst P c.in-Ok.ensures.bytes (done_reads c.call.result (Call.Append c.args.name c.in-Ok.bytes) old new c.call.ensures.done)

pub returns-in-Ok-clause-small : goal.returns-in-Ok-clause-small
returns-in-Ok-clause-small c = small_ok c.call.result c.call.new.self c.args.name (c.call.ensures.small c.args.name)

pub returns-in-Ok-clause-small_err : goal.returns-in-Ok-clause-small_err
returns-in-Ok-clause-small_err c = small_err c.call.result c.args.self.now c.call.new.self c.args.name (c.call.ensures.small c.args.name)

past_kept : (c : goal.After-fault) → c.fault.new.self.past ≡ c.args.self.now.past
past_kept c = search rules

pub returns-in-Err-clause-small_err : goal.returns-in-Err-clause-small_err
returns-in-Err-clause-small_err c = small_kept c.args.self.now c.fault.new.self c.args.name (past_kept c)
