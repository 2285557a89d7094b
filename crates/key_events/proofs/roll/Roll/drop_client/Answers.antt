-- Serves the invariant after a client was taken out.
use Rattle.std.proofs.Common.{refl, sym, subst, ◌∙◌}
use Rattle.key_events.specs.inner.Listing.{Leaves}
use Rattle.key_events.proofs.Renamed.{unchanged}
use Rattle.key_events.proofs.Agreeing.{moved, agree_dropped}
use Rattle.key_events.proofs.roll.Roll.drop_client.Goals as goal

pub invariant_of-self : goal.invariant_of-self
invariant_of-self c =
    let now = c.self.inside in
    moved _ c.remove.new.self _ c.remove_all.new.self c.remove.ensures.removed refl
    (agree_dropped now.table now.lines c.remove_all.new.self c.args.client c.in-Some.names
    (sym c.remove.ensures.names ∙ c.in-Some.is)
    (subst (λ ns. Leaves ns c.args.client now.lines c.remove_all.new.self)
    c.as_slice.ensures.names c.remove_all.ensures.left)
    c.self.invariant)

pub invariant_of-self-in-None : goal.invariant_of-self-in-None
invariant_of-self-in-None c =
    let now = c.self.inside in
    moved now.table c.remove.new.self now.lines now.lines
    (c.remove.ensures.removed
    ∙ unchanged now.table c.args.client (sym c.remove.ensures.names ∙ c.in-None.is)) refl
    c.self.invariant
