-- Serves clauses stop and crash of `load`.
use Rattle.std.proofs.Common.{refl, Err, ap, ◌∙◌}
use Rattle.std.proofs.lemmas.Bool.{false≢true}
use Rattle.std.proofs.lemmas.Result.{err_from_is_err_and}
use Rattle.disk_model.specs.Told.{disk_told}
use Rattle.disk_model.proofs.Moments as moments
use Rattle.host_core.specs.Replay.{replay}
use Rattle.restart.specs.Restart.{RestartsAsLeft}
use Rattle.restart.proofs.Crash.{as_it_is}
use Rattle.durable_host.proofs.Hosts.{start_stops, stops_opened}
use Rattle.durable_host.proofs.loading.load.Goals as goal

pub returns-in_err-loader-clause-crash : goal.returns-in_err-loader-clause-crash
returns-in_err-loader-clause-crash g c =
    let told = g.D.Dir.told c.args.dir.now in
    moments.no_call told told (RestartsAsLeft replay (disk_told told)) refl (λ image may. as_it_is replay (disk_told told) image may)

pub returns-in_err-opened-clause-stop : goal.returns-in_err-opened-clause-stop
returns-in_err-opened-clause-stop g c =
    let p = err_from_is_err_and c.from_residual-in_err-opened.result c.from_residual-in_err-opened.ensures.1 in
    rw (p.1, p.2) (start_stops c.in_err-opened.field-0.0 (g.D.Dir.told c.args.dir.now) (g.D.Dir.told c.open_log.new.dir)
    (λ is. false≢true (c.open_log.ensures.spent (c.in_err-opened.was ∙ ap Err is))) c.in_err-opened.ensures.stop)

pub returns-in_err-opening-clause-stop : goal.returns-in_err-opening-clause-stop
returns-in_err-opening-clause-stop g c =
    let p = err_from_is_err_and c.from_residual-in_err-opening.result c.from_residual-in_err-opening.ensures.1 in
    rw (p.1, p.2) (stops_opened (g.D.Dir.told c.args.dir.now) (g.D.Dir.told c.open_log.new.dir) c.open_log.new.replayer c.in_ok-opened.opened c.in_ok-opened.ensures.opened)
