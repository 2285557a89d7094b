use Rattle.std.proofs.Common.{◌≡◌, ◌+◌, ◌-◌, ◌<◌, suc, length, ◌∙◌, arith, if◌then◌else◌}
use Rattle.core_types.specs.Equal.{without_first}
use Rattle.core_types.proofs.Rounds.{step, within, one_at_most, going_round}
use Rattle.core_types.proofs.list_body.remove_first.Goals as goal
use Rattle.core_types.proofs.list_body.remove_first.Goals.{then-turn_first, else-turn_first}

pub loop-more-preserved : goal.loop-more-preserved
loop-more-preserved c =
    let removed : c.if-turn_first.removed ≡ c.loop-more.removed + (if c.turn_first.result then 1 else 0) =
    elim c.if-turn_first.branch [
      | then-turn_first w ↦ rw w.if-turn_first.true w.removed-is
      | else-turn_first w ↦ rw w.if-turn_first.false (w.removed-is ∙ omega arith)
    ] in
    let inside : c.loop-more.more - 1 < length c.loop-more.items.items = omega (arith, c.loop-more-test.true, c.loop-more.invariant.3, c.loop-more.items.ok) in
    let turned = step c.turn_first.result (c.loop-more.more - 1) c.loop-more.removed c.args.most c.args.item.now c.loop-more.items.items inside c.turn_first.ensures.gone in
    let one : suc (c.loop-more.more - 1) ≡ c.loop-more.more = omega (arith, c.loop-more-test.true) in
    let whole : going_round (c.loop-more.more - 1) (c.args.most - c.if-turn_first.removed) c.args.item.now c.turn_first.new.items.items ≡ without_first c.args.most c.args.item.now c.args.items.now.items =
    rw (c.turn_first.ensures.turned, removed) (turned ∙ rw one c.loop-more.invariant.0) in
    let few = one_at_most c.turn_first.result in
    let may = within c.turn_first.result c.loop-more.removed c.args.most _ c.loop-more.invariant.2 c.turn_first.ensures.gone in
    (whole, omega (arith, removed, c.turn_first.ensures.count, c.loop-more.invariant.1), omega (arith, removed, may), omega (arith, few, c.turn_first.ensures.count, c.loop-more.invariant.3))
