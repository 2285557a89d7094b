-- Serves clause steps of arrive.
use Rattle.std.proofs.Common.{◌≡◌, subst, sym, true, ◌∙◌}
use Rattle.core_types.specs.declared.event.Event.TheVariants as event
use Rattle.client_book.specs.Register.{roll_of}
use Rattle.host_core.specs.Clients.{client_at, is_served}
use Rattle.host_core.specs.Core.{Held}
use Rattle.host_core.proofs.Making.{makes_answer, told_by}
use Rattle.host_core.proofs.machine.Core.arrive.Goals as goal

pub returns-clause-steps : goal.returns-clause-steps
returns-clause-steps c =
    let inside = c.self.inside in
    let held : Held = record { keys = inside.keys; moment = inside.moment; register = inside.book } in
    let between : Held = record { keys = c.serve.new.keys; moment = inside.moment; register = inside.book } in
    let client = c.args.client in
    told_by (event.Arrive client c.args.words.now) held c.args.self.now between c.tell.new.self client c.in_ok-given.given c.tell.result c.self.view_is c.tell.ensures.told c.tell.ensures.held
    (makes_answer held client c.args.words.now c.in_ok-given.given c.serve.new.keys
    (subst (λ h. is_served (client_at (roll_of h.register) client) ≡ true) (sym c.self.view_is) (sym c.serves.ensures.served ∙ c.if-not-serves.false)) c.in_ok-given.ensures.given)
