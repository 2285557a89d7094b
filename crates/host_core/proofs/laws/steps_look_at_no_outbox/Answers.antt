-- Serves clause apart of steps_look_at_no_outbox.
use Rattle.host_core.proofs.Outboxes.{apart}
use Rattle.host_core.proofs.laws.steps_look_at_no_outbox.Goals as goal

pub returns : goal.returns
returns c = record { apart = λ client count state event joined can. apart client count state event joined can }
