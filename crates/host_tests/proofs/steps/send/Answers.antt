-- Serves what the test asks of step: what a reader takes is a request.
use Rattle.std.proofs.Common.{Ok, ap}
use Rattle.host_tests.proofs.steps.send.Goals as goal

pub step-requires : goal.step-requires
step-requires c = record { servable = (c.in_ok-words.ensures.request c.in-Request.words (ap Ok c.in-Request.is)).spells.0 }
