-- Serves the invariant after a ticket left.
use Rattle.std.proofs.Common.{refl, sym, ap, ◌∙◌}
use Rattle.key_waiters.specs.inner.Lines.{without_place}
use Rattle.key_waiters.proofs.Places.{moved, agree_without, unchanged}
use Rattle.key_waiters.proofs.waiters.Waiters.leave.Goals as goal

pub invariant_of-self : goal.invariant_of-self
invariant_of-self c =
    let now = c.self.inside in
    let some = sym c.remove.ensures.key ∙ c.in-Some.is in
    moved _ c.remove.new.self _ c.remove-in-Some.new.self c.remove.ensures.removed
    (c.remove-in-Some.ensures.removed
    ∙ ap (λ k. without_place now.lines k c.args.ticket) c.as_slice.ensures.bytes)
    (agree_without now.table now.lines c.args.ticket c.in-Some.key some c.self.invariant)

pub invariant_of-self-in-None : goal.invariant_of-self-in-None
invariant_of-self-in-None c =
    let now = c.self.inside in
    let none = sym c.remove.ensures.key ∙ c.in-None.is in
    moved now.table c.remove.new.self now.lines now.lines
    (c.remove.ensures.removed ∙ unchanged now.table c.args.ticket none) refl c.self.invariant
