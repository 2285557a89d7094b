-- Serves clause steps of step.
use Rattle.std.proofs.Common.{subst, sym}
use Rattle.host_core.specs.Core.{Steps}
use Rattle.host_core.proofs.machine.Core.step.Goals as goal

pub returns-in_ok-refuse-in-Malformed-clause-steps : goal.returns-in_ok-refuse-in-Malformed-clause-steps
returns-in_ok-refuse-in-Malformed-clause-steps c =
    let made = c.in_ok-refuse-in-Malformed in
    subst (λ happens. Steps c.args.self.now happens made.field-0 c.refuse.new.self) (sym c.in-Malformed.is) made.ensures.steps
