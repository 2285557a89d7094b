use Rattle.std.proofs.Common.{length, get_or, ap, ◌∙◌, arith, rules}
use Rattle.replica_feed.proofs.Replaying.{replayed-more, refuses_at}
use Rattle.replica_feed.proofs.replica.replay_all.Goals as goal

pub returns-in_err-replay-clause-refused : goal.returns-in_err-replay-clause-refused
returns-in_err-replay-clause-refused g c = λ place why is.
    let items = c.as_slice-effect-items.ensures.items in
    let h = c.in_err-replay.ensures.refused place why (search rules) in
    (h.0, refuses_at _ _ _ c.args.effects.now c.loop-effect.effect-index c.effect-item.result why (omega (arith, c.loop-effect-test.true, ap length items)) (c.effect-item.is ∙ ap (λ es. get_or es c.loop-effect.effect-index c.effect-item.result) items) c.loop-effect.invariant h.1)

pub loop-effect-preserved : goal.loop-effect-preserved
loop-effect-preserved g c =
    let items = c.as_slice-effect-items.ensures.items in
    replayed-more _ _ _ _ c.args.effects.now c.loop-effect.effect-index c.effect-item.result (omega (arith, c.loop-effect-test.true, ap length items)) (c.effect-item.is ∙ ap (λ es. get_or es c.loop-effect.effect-index c.effect-item.result) items) c.loop-effect.invariant c.in_ok-replay.ensures.ok
