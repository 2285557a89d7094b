use Rattle.std.proofs.lemmas.Result.{on_ok_weaker}
use Rattle.disk_model.specs.Past.{Call}
use Rattle.disk_model.specs.Told.{disk_told}
use Rattle.disk_model.specs.Runs.{MayLeave}
use Rattle.disk_model.proofs.Failures.{was_made}
use Rattle.disk_model.proofs.Moments.{by_names_sync}
use Rattle.restart.proofs.KeptLogs.{names_told}
use Rattle.restart.proofs.keeping.sync_name.Goals as goal

pub returns-clause-safe : goal.returns-clause-safe
returns-clause-safe g c = λ synced.
    let old = g.D.Dir.told c.args.dir.now in
    let last = g.D.Dir.told c.sync_names.new.self in
    on_ok_weaker c.sync_names.result
    (λ done. names_told c.args.bytes.now old last done synced) c.sync_names.ensures.done

pub returns-clause-crash : goal.returns-clause-crash
returns-clause-crash g c =
    let old = g.D.Dir.told c.args.dir.now in
    let last = g.D.Dir.told c.sync_names.new.self in
    let done = c.sync_names.ensures.done in
    let was = was_made c.sync_names.result Call.SyncNames old last done c.sync_names.ensures.failed in
    by_names_sync old last (MayLeave (disk_told old)) was (λ image may. may)
