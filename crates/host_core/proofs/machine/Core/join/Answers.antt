-- Serves clause steps of join.
use Rattle.std.proofs.Common.{ap, subst, sym}
use Rattle.core_types.specs.declared.event.Event.TheVariants as event
use Rattle.host_core.specs.Core.{AreJoined}
use Rattle.host_core.proofs.Making.{makes_joined, not_late, steps_by}
use Rattle.host_core.proofs.Rolls.{joined_joins}
use Rattle.host_core.proofs.machine.Core.join.Goals as goal

pub invariant_of-self-2 : goal.invariant_of-self-2
invariant_of-self-2 c =
    record {
      knows = c.self.invariant.knows;
      joined = subst AreJoined (sym c.in_default.ensures.ok)
          (joined_joins c.args.client c.self.inside.book c.self.invariant.joined (not_late c.args.client c.self.inside.book.last c.join.result c.in_default.field-0 c.in_default.is c.join.ensures.stale));
    }

pub returns-clause-steps : goal.returns-clause-steps
returns-clause-steps c =
    let inside = c.self.inside in
    steps_by (event.Join c.args.client) c.self.view_is c.answered.ensures.quiet
    (ap (λ r. record { keys = inside.keys; moment = inside.moment; register = r }) c.in_default.ensures.ok)
    (makes_joined (record { keys = inside.keys; moment = inside.moment; register = inside.book }) c.args.client c.self.invariant.joined
    (not_late c.args.client c.self.inside.book.last c.join.result c.in_default.field-0 c.in_default.is c.join.ensures.stale))
