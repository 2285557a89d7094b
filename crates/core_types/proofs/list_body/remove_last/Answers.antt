use Rattle.std.proofs.Common.{◌≡◌, ◌+◌, ◌-◌, ◌<◌, reverse, suc, length, ◌∙◌, arith, if◌then◌else◌}
use Rattle.core_types.specs.Equal.{without_first}
use Rattle.std.proofs.lemmas.List.{length-reverse}
use Rattle.core_types.proofs.Rounds.{step, within, one_at_most, going_round}
use Rattle.core_types.proofs.list_body.remove_last.Goals as goal
use Rattle.core_types.proofs.list_body.remove_last.Goals.{then-turn_last, else-turn_last}

pub loop-more-preserved : goal.loop-more-preserved
loop-more-preserved c =
    let removed : c.if-turn_last.removed ≡ c.loop-more.removed + (if c.turn_last.result then 1 else 0) =
    elim c.if-turn_last.branch [
      | then-turn_last w ↦ rw w.if-turn_last.true w.removed-is
      | else-turn_last w ↦ rw w.if-turn_last.false (w.removed-is ∙ omega arith)
    ] in
    let inside : c.loop-more.more - 1 < length (reverse c.loop-more.items.items) = omega (arith, length-reverse c.loop-more.items.items, c.loop-more-test.true, c.loop-more.invariant.3, c.loop-more.items.ok) in
    let turned = step c.turn_last.result (c.loop-more.more - 1) c.loop-more.removed c.args.most c.args.item.now (reverse c.loop-more.items.items) inside c.turn_last.ensures.gone in
    let one : suc (c.loop-more.more - 1) ≡ c.loop-more.more = omega (arith, c.loop-more-test.true) in
    let whole : going_round (c.loop-more.more - 1) (c.args.most - c.if-turn_last.removed) c.args.item.now (reverse c.turn_last.new.items.items) ≡ without_first c.args.most c.args.item.now (reverse c.args.items.now.items) =
    rw (c.turn_last.ensures.turned, removed) (turned ∙ rw one c.loop-more.invariant.0) in
    let few = one_at_most c.turn_last.result in
    let may = within c.turn_last.result c.loop-more.removed c.args.most _ c.loop-more.invariant.2 c.turn_last.ensures.gone in
    (whole, omega (arith, removed, c.turn_last.ensures.count, c.loop-more.invariant.1), omega (arith, removed, may), omega (arith, few, c.turn_last.ensures.count, c.loop-more.invariant.3))
