use Rattle.std.proofs.Common.{ap, sym, ◌∙◌, if◌then◌else◌}
use Rattle.core_types.specs.declared.client_state.ClientState.TheVariants as states
use Rattle.client_book.specs.Register.{state_of}
use Rattle.client_book.proofs.Changing.{listed-view}
use Rattle.client_book.proofs.book.Book.state.Goals as goal

pub returns-in-None : goal.returns-in-None
returns-in-None c = record { state = sym (ap state_of (listed-view c.self.inside c.args.client c.self.view_is c.in-None.ensures.value)) }

pub returns-in-Some : goal.returns-in-Some
returns-in-Some c = record {
  state = sym (ap state_of (listed-view c.self.inside c.args.client c.self.view_is c.in-Some.ensures.value) ∙ ap (λ closing. if closing then states.Closing else states.Connected) c.if-entry.true);
}

pub returns-in-Some-2 : goal.returns-in-Some-2
returns-in-Some-2 c = record {
  state = sym (ap state_of (listed-view c.self.inside c.args.client c.self.view_is c.in-Some.ensures.value) ∙ ap (λ closing. if closing then states.Closing else states.Connected) c.if-entry.false);
}
