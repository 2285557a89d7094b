-- Serves clause kept of `DurableHost::events`.
use Rattle.std.proofs.Common.{subst}
use Rattle.durable_host.specs.Host.{KeepsHistory}
use Rattle.durable_host.proofs.Hosts.{sound_keeps}
use Rattle.durable_host.proofs.host.DurableHost.events.Goals as goal

pub returns-clause-kept : goal.returns-clause-kept
returns-clause-kept g c =
    subst (KeepsHistory g.D.Dir.told) c.self.view_is (sound_keeps g.D.Dir.told c.self.inside.stopped c.self.inside.ending c.self.inside.parts c.self.invariant)
