-- Serves clauses kept and keys of `DurableHost::close`.
use Rattle.std.proofs.Common.{subst, ap, ◌∙◌, ◌≡◌, None, IfSome}
use Rattle.disk_model.specs.Told.{files_told}
use Rattle.restart.specs.Restart.{Restarts}
use Rattle.host_core.specs.Replay.{replay}
use Rattle.durable_host.specs.Host.{Host, KeepsHistory}
use Rattle.durable_host.specs.inner.Running.{IsSound}
use Rattle.durable_host.proofs.Hosts.{closes, sound_keeps}
use Rattle.durable_host.proofs.host.DurableHost.close.Goals as goal

pub returns-clause-kept : goal.returns-clause-kept
returns-clause-kept g c =
    subst (KeepsHistory g.D.Dir.told) c.self.view_is (sound_keeps g.D.Dir.told c.self.inside.stopped c.self.inside.ending c.self.inside.parts c.self.invariant)

pub returns-clause-keys : goal.returns-clause-keys
returns-clause-keys g c runs =
    let stopped : c.self.inside.stopped ≡ None = ap (λ (host : Host g.row.D.Denot). host.stopped) c.self.view_is ∙ runs in
    let running = subst (λ s. IsSound g.D.Dir.told s c.self.inside.parts) stopped c.self.invariant in
    rw c.close.ensures.dir (subst (λ keys. IfSome (files_told (g.D.Dir.told c.self.inside.parts.dir)) (λ files. Restarts replay files keys))
    (ap (λ (host : Host g.row.D.Denot). host.held.keys) c.self.view_is) (closes g.D.Dir.told c.self.inside.parts running))
