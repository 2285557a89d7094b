use Rattle.std.proofs.lemmas.Result.{err_from_is_err_and}
use Rattle.restart.proofs.OpenLogs.{has_opened, partly, there_still, unopened_stops, crash_reading}
use Rattle.restart.proofs.Calls.{asks_to_open}
use Rattle.restart.proofs.Crash.{crash_further}
use Rattle.restart.proofs.opening.open_log.Goals as goal

pub returns-in_err-found-clause-stop : goal.returns-in_err-found-clause-stop
returns-in_err-found-clause-stop g c =
    let p = err_from_is_err_and c.from_residual.result c.from_residual.ensures.1 in
    rw (p.1, p.2) (unopened_stops g.R.Replayer.meaning c.in_err-found.field-0.0 (g.D.Dir.told c.args.dir.now) (g.D.Dir.told c.find.new.dir) c.in_err-found.ensures.stop c.find.ensures.looks.same)

pub returns-in_err-found-clause-crash : goal.returns-in_err-found-clause-crash
returns-in_err-found-clause-crash g c = crash_reading g.R.Replayer.meaning (g.D.Dir.told c.args.dir.now) (g.D.Dir.told c.find.new.dir) c.find.ensures.looks.same

pub make_safe-requires : goal.make_safe-requires
make_safe-requires g c = record {
  there = there_still g.R.Replayer.meaning c.in_ok-found.found (g.R.Replayer.keys c.find.new.replayer) (g.D.Dir.told c.args.dir.now) (g.D.Dir.told c.find.new.dir) c.in_ok-found.ensures.there c.in_ok-found.ensures.keys c.find.ensures.looks.same;
}

pub returns-in_err-make_safe-clause-stop : goal.returns-in_err-make_safe-clause-stop
returns-in_err-make_safe-clause-stop g c =
    let p = err_from_is_err_and c.from_residual-in_err-make_safe.result c.from_residual-in_err-make_safe.ensures.1 in
    rw (p.1, p.2) (partly g.R.Replayer.meaning c.in_ok-found.found (g.R.Replayer.keys c.find.new.replayer) (g.D.Dir.told c.args.dir.now) (g.D.Dir.told c.find.new.dir) c.in_ok-found.ensures.there c.in_ok-found.ensures.keys c.find.ensures.looks.same (g.D.Dir.told c.make_safe.new.dir) c.in_err-make_safe.ensures.err)

pub returns-in_err-make_safe-clause-crash : goal.returns-in_err-make_safe-clause-crash
returns-in_err-make_safe-clause-crash g c =
    let old = g.D.Dir.told c.args.dir.now in
    let read = g.D.Dir.told c.find.new.dir in
    crash_further g.R.Replayer.meaning old read (g.D.Dir.told c.make_safe.new.dir) (crash_reading g.R.Replayer.meaning old read c.find.ensures.looks.same) (c.make_safe.ensures.crash g.R.Replayer.meaning (g.R.Replayer.keys c.find.new.replayer) c.in_ok-found.ensures.keys)

pub returns-clause-opened : goal.returns-clause-opened
returns-clause-opened g c =
    rw c.opened.ensures.opened (has_opened g.R.Replayer.meaning c.in_ok-found.found (g.R.Replayer.keys c.find.new.replayer) (g.D.Dir.told c.args.dir.now) (g.D.Dir.told c.find.new.dir) c.in_ok-found.ensures.there c.in_ok-found.ensures.keys c.find.ensures.looks.same (g.D.Dir.told c.make_safe.new.dir) c.in_ok-make_safe.ensures.ok c.in_ok-make_safe.ensures.safe)

pub returns-clause-crash : goal.returns-clause-crash
returns-clause-crash g c =
    let old = g.D.Dir.told c.args.dir.now in
    let read = g.D.Dir.told c.find.new.dir in
    crash_further g.R.Replayer.meaning old read (g.D.Dir.told c.make_safe.new.dir) (crash_reading g.R.Replayer.meaning old read c.find.ensures.looks.same) (c.make_safe.ensures.crash g.R.Replayer.meaning (g.R.Replayer.keys c.find.new.replayer) c.in_ok-found.ensures.keys)

pub returns-clause-calls : goal.returns-clause-calls
returns-clause-calls g c =
    let old = g.D.Dir.told c.args.dir.now in
    let read = g.D.Dir.told c.find.new.dir in
    let new = g.D.Dir.told c.make_safe.new.dir in
    rw c.opened.ensures.opened
    (asks_to_open old read new c.in_ok-found.found c.in_ok-found.ensures.there
    c.in_ok-found.ensures.looks.calls c.in_ok-make_safe.ensures.calls)
