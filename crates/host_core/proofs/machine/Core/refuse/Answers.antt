-- Serves clause steps of refuse.
use Rattle.std.proofs.Common.{◌≡◌, [], ap, refl, subst, sym, true, ◌∙◌}
use Rattle.core_types.specs.declared.event.Event.TheVariants as event
use Rattle.host_core.specs.Core.{Steps}
use Rattle.host_core.specs.declared.given.Given.{Given}
use Rattle.host_core.specs.inner.Giving.{heard}
use Rattle.host_core.proofs.Making.{held_after, makes_refused, told_by}
use Rattle.host_core.proofs.machine.Core.refuse.Goals as goal

pub returns-clause-steps : goal.returns-clause-steps
returns-clause-steps c =
    let held = c.args.self.now in
    let client = c.args.client in
    let given : Given = record { reply = c.replying.result.reply; effects = c.replying.result.effects; closes = true } in
    let is : given ≡ _ = ap (λ (g : Given). record { reply = g.reply; effects = g.effects; closes = true }) c.replying.ensures
    ∙ ap (λ reply. record { reply = reply; effects = []; closes = true }) c.in_ok-reply.ensures in
    told_by (event.Malformed client c.args.kind.now) held held held c.tell-2.new.self client given c.tell-2.result refl c.tell-2.ensures.told c.tell-2.ensures.held
    (subst (λ g. Steps held (event.Malformed client c.args.kind.now) (heard client g) (held_after client g held.keys held)) (sym is)
    (makes_refused held client c.args.kind.now (sym c.serves.ensures.served ∙ c.if-not-serves.false)))
