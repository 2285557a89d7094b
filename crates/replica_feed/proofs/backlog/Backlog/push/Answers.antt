use Rattle.std.proofs.Common.{arith, ap, sym, ◌∙◌, ◌+◌, List}
use Rattle.core_types.specs.declared.effect.Effect.{Effect}
use Rattle.replica_feed.proofs.Kept.{kept_later, kept_more, kept_dropped, length_more, length_dropped}
use Rattle.replica_feed.proofs.backlog.Backlog.push.Goals as goal

pub invariant_of-self : goal.invariant_of-self
invariant_of-self c = (kept_later _ _ _ c.self.invariant.0, c.self.invariant.1)

pub invariant_of-self-then-len-gt-MOST : goal.invariant_of-self-then-len-gt-MOST
invariant_of-self-then-len-gt-MOST c =
    let is = c.new-unit.ensures ∙ ap (λ (es : List Effect). record { from = c.last_to-from.result; to = c.self.inside.end + 1; effects = es }) c.in_ok-copy.ensures.same in
    let k = kept_more c.self.inside.first c.self.inside.units c.push.new.self c.self.inside.end c.last_to-from.result c.new-unit.result c.args.effects.now c.self.invariant.0 c.in_ok-push.ensures.ok is c.last_to-from.ensures (sym c.is_empty.ensures.empty ∙ c.if-is_empty.false) c.requires.loggable in
    let l = length_more c.self.inside.first c.self.inside.units c.push.new.self c.self.inside.end c.last_to-from.result c.new-unit.result c.args.effects.now c.self.invariant.0 c.in_ok-push.ensures.ok in (
      kept_dropped c.self.inside.first c.drop_oldest-self-inside.result c.push.new.self c.drop_oldest-self-inside.new.self _ c.drop_oldest-self-inside.ensures.rest c.drop_oldest-self-inside.ensures.to k,
      length_dropped c.push.new.self c.drop_oldest-self-inside.new.self 1048576 c.drop_oldest-self-inside.ensures.rest (omega (arith, l, c.self.invariant.1)),
    )

pub invariant_of-self-else-len-gt-MOST : goal.invariant_of-self-else-len-gt-MOST
invariant_of-self-else-len-gt-MOST c =
    let is = c.new-unit.ensures ∙ ap (λ (es : List Effect). record { from = c.last_to-from.result; to = c.self.inside.end + 1; effects = es }) c.in_ok-copy.ensures.same in (
      kept_more c.self.inside.first c.self.inside.units c.push.new.self c.self.inside.end c.last_to-from.result c.new-unit.result c.args.effects.now c.self.invariant.0 c.in_ok-push.ensures.ok is c.last_to-from.ensures (sym c.is_empty.ensures.empty ∙ c.if-is_empty.false) c.requires.loggable,
      omega (arith, c.if-len-gt-MOST.false, c.len.ensures.length),
    )
