-- Serves clause kept of `DurableHost::start`.
use Rattle.std.proofs.Common.{false}
use Rattle.durable_host.proofs.Running.{keeps}
use Rattle.durable_host.proofs.host.DurableHost.start.Goals as goal

pub returns-clause-kept : goal.returns-clause-kept
returns-clause-kept g c = keeps g.D.Dir.told c.in_ok-parts.parts c.in_ok-parts.ensures.running false
