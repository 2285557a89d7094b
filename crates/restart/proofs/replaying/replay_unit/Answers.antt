use Rattle.std.proofs.Common.{length, get_or, Err, ap, ◌∙◌, arith}
use Rattle.restart.proofs.Effects.{replayed-more, stops_at}
use Rattle.restart.proofs.replaying.replay_unit.Goals as goal

pub returns-in-Err-clause-stop : goal.returns-in-Err-clause-stop
returns-in-Err-clause-stop g c =
    let items = c.as_slice-effect-items.ensures.items in
    rw c.stopped.ensures
    (stops_at _ c.in-Err.stop _ _ c.args.effects.now c.args.reader.now.starts c.loop-n.n _ c.effect-item.result (omega (arith, c.loop-n-test.true, ap length items)) (c.effect-item.is ∙ ap (λ es. get_or es c.loop-n.n c.effect-item.result) items) c.loop-n.invariant
    (λ place why is. c.replay.ensures.refused place why (c.in-Err.is ∙ ap Err is)) c.effect_at.ensures.start)

pub loop-n-preserved : goal.loop-n-preserved
loop-n-preserved g c =
    let items = c.as_slice-effect-items.ensures.items in
    replayed-more _ _ _ _ c.args.effects.now c.loop-n.n c.effect-item.result (omega (arith, c.loop-n-test.true, ap length items)) (c.effect-item.is ∙ ap (λ es. get_or es c.loop-n.n c.effect-item.result) items) c.loop-n.invariant c.in_default.ensures.ok
