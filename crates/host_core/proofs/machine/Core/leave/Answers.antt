-- Serves clause steps of leave.
use Rattle.std.proofs.Common.{ap, subst, sym, ◌∙◌}
use Rattle.core_types.specs.declared.event.Event.TheVariants as event
use Rattle.host_core.specs.Core.{AreJoined}
use Rattle.host_core.proofs.Making.{makes_absent, makes_gone, steps_by}
use Rattle.host_core.proofs.Rolls.{joined_leaves}
use Rattle.host_core.proofs.machine.Core.leave.Goals as goal

pub invariant_of-self : goal.invariant_of-self
invariant_of-self c =
    record {
      knows = c.self.invariant.knows;
      joined = subst AreJoined (sym c.drop_client.ensures.gone) (joined_leaves c.args.client c.self.inside.book c.self.invariant.joined);
    }

pub returns-in-Absent : goal.returns-in-Absent
returns-in-Absent c =
    let inside = c.self.inside in
    record {
      steps = steps_by (event.Gone c.args.client) c.self.view_is c.answered.ensures.quiet (sym c.self.view_is)
          (makes_absent (record { keys = inside.keys; moment = inside.moment; register = inside.book }) c.args.client (sym c.state.ensures.state ∙ c.in-Absent.is));
    }

pub returns : goal.returns
returns c =
    let inside = c.self.inside in
    record {
      steps = steps_by (event.Gone c.args.client) c.self.view_is c.answered-2.ensures.quiet
          (ap (λ r. record { keys = inside.keys; moment = inside.moment; register = r }) c.drop_client.ensures.gone)
          (makes_gone (record { keys = inside.keys; moment = inside.moment; register = inside.book }) c.args.client (λ none. c.in_default.not-Absent (c.state.ensures.state ∙ none)));
    }
