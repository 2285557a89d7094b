use Rattle.std.proofs.Common.{[]}
use Rattle.std.proofs.lemmas.Result.{on_ok_weaker}
use Rattle.disk_model.specs.declared.file_name.FileName.TheVariants.{Log}
use Rattle.disk_model.specs.Past.{Call}
use Rattle.disk_model.specs.Told.{disk_told}
use Rattle.disk_model.proofs.Failures.{create_failed, was_done, was_failed, was_made}
use Rattle.disk_model.proofs.Moments.{by_call, by_names_sync, further, now}
use Rattle.restart.specs.Restart.{RestartsAsLeft}
use Rattle.restart.proofs.Crash.{as_it_is, create_as_left}
use Rattle.restart.proofs.KeptLogs.{always_on_err, created_told, names_told}
use Rattle.restart.proofs.keeping.begin_log.Goals as goal

pub returns-in_err-create-clause-err : goal.returns-in_err-create-clause-err
returns-in_err-create-clause-err g c = always_on_err c.from_residual.result _ (create_failed Log _ _ c.in_err-create.ensures.failed)

pub returns-in_err-create-clause-crash : goal.returns-in_err-create-clause-crash
returns-in_err-create-clause-crash g c = λ replay.
    let old = g.D.Dir.told c.args.dir.now in
    let made = g.D.Dir.told c.create.new.self in
    by_call (Call.Create Log) old made (RestartsAsLeft replay (disk_told old)) (was_failed (Call.Create Log) old made c.in_err-create.ensures.failed)
    (λ image may. as_it_is replay (disk_told old) image may) (λ image may. create_as_left replay old c.requires.none image may)

pub returns-clause-safe : goal.returns-clause-safe
returns-clause-safe g c =
    let old = g.D.Dir.told c.args.dir.now in
    let made = g.D.Dir.told c.create.new.self in
    let last = g.D.Dir.told c.sync_names.new.self in
    on_ok_weaker c.sync_names.result (λ done. names_told [] made last done (created_told old made c.in_ok-create.ensures.done)) c.sync_names.ensures.done

pub returns-clause-crash : goal.returns-clause-crash
returns-clause-crash g c = λ replay.
    let old = g.D.Dir.told c.args.dir.now in
    let made = g.D.Dir.told c.create.new.self in
    let last = g.D.Dir.told c.sync_names.new.self in
    let P = RestartsAsLeft replay (disk_told old) in
    let first = by_call (Call.Create Log) old made P (was_done (Call.Create Log) old made c.in_ok-create.ensures.done)
    (λ image may. as_it_is replay (disk_told old) image may) (λ image may. create_as_left replay old c.requires.none image may) in
    further old made last P first (by_names_sync made last P (was_made c.sync_names.result Call.SyncNames made last c.sync_names.ensures.done c.sync_names.ensures.failed) (λ image may. now old made P first image may))
