use Rattle.std.proofs.Common.{refl, ap, Ok}
use Rattle.std.proofs.lemmas.Result.{err_from_is_err_and}
use Rattle.restart.proofs.Units.{unit_replayable, goes_on, shorter, stops_in, breaks}
use Rattle.restart.proofs.replaying.replay_log.Goals as goal

pub replay_unit-requires-clause-each : goal.replay_unit-requires-clause-each
replay_unit-requires-clause-each g c =
    unit_replayable _ _ _ (c.in_ok-effects.ensures.unit c.in-Unit.effects (ap Ok c.in-Unit.is))

pub replay_unit-requires-clause-starts : goal.replay_unit-requires-clause-starts
replay_unit-requires-clause-starts g c =
    let t = c.in_ok-effects.ensures.unit c.in-Unit.effects (ap Ok c.in-Unit.is) in
    t.count

pub returns-in_err-replay_unit-in-Unit-clause-stop : goal.returns-in_err-replay_unit-in-Unit-clause-stop
returns-in_err-replay_unit-in-Unit-clause-stop g c =
    let t = c.in_ok-effects.ensures.unit c.in-Unit.effects (ap Ok c.in-Unit.is) in
    let p = err_from_is_err_and c.from_residual-in_err-replay_unit-in-Unit.result c.from_residual-in_err-replay_unit-in-Unit.ensures.1 in
    rw (p.1, p.2) (stops_in _ _ _ _ _ c.loop-reader.invariant _ t c.in_err-replay_unit-in-Unit.field-0.0 c.in_err-replay_unit-in-Unit.ensures.stop)

pub loop-reader-smaller : goal.loop-reader-smaller
loop-reader-smaller g c =
    let t = c.in_ok-effects.ensures.unit c.in-Unit.effects (ap Ok c.in-Unit.is) in
    shorter _ _ _ _ _ c.loop-reader.invariant _ t

pub loop-reader-preserved : goal.loop-reader-preserved
loop-reader-preserved g c =
    let t = c.in_ok-effects.ensures.unit c.in-Unit.effects (ap Ok c.in-Unit.is) in
    goes_on _ _ _ _ _ c.loop-reader.invariant _ t _ c.in_ok-replay_unit-in-Unit.ensures.ok

pub returns-in-Bad-clause-stop : goal.returns-in-Bad-clause-stop
returns-in-Bad-clause-stop g c =
    let bad = c.in_ok-effects.ensures.bad c.in-Bad.offset c.in-Bad.reason (ap Ok c.in-Bad.is) in
    (refl, breaks _ _ _ _ c.loop-reader.invariant c.in-Bad.offset c.in-Bad.reason bad.0)
