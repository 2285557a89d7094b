-- Serves the clauses of serves.
use Rattle.std.proofs.Common.{◌≡◌, ap, subst, sym, ◌∙◌, false, true}
use Rattle.client_book.specs.Register.{roll_of}
use Rattle.host_core.specs.Clients.{client_at, is_served}
use Rattle.host_core.proofs.Rolls.{is_connected, served_at}
use Rattle.host_core.proofs.machine.Core.serves.Goals as goal

pub returns-in-Connected-clause-served : goal.returns-in-Connected-clause-served
returns-in-Connected-clause-served c =
    subst (λ held. true ≡ is_served (client_at (roll_of held.register) c.args.client)) c.self.view_is
    (sym (served_at c.self.inside.book c.args.client ∙ ap is_connected (sym c.state.ensures.state ∙ c.in-Connected.is)))

pub returns-in-Closing-clause-served : goal.returns-in-Closing-clause-served
returns-in-Closing-clause-served c =
    subst (λ held. false ≡ is_served (client_at (roll_of held.register) c.args.client)) c.self.view_is
    (sym (served_at c.self.inside.book c.args.client ∙ ap is_connected (sym c.state.ensures.state ∙ c.in-Closing.is)))

pub returns-in-Absent-clause-served : goal.returns-in-Absent-clause-served
returns-in-Absent-clause-served c =
    subst (λ held. false ≡ is_served (client_at (roll_of held.register) c.args.client)) c.self.view_is
    (sym (served_at c.self.inside.book c.args.client ∙ ap is_connected (sym c.state.ensures.state ∙ c.in-Absent.is)))
