-- Serves clauses moved and kept of `DurableHost::take_out`.
use Rattle.std.proofs.Common.{subst, ◌≤◌, take, arith}
use Rattle.client_book.specs.Register.{free_of, listed}
use Rattle.durable_host.specs.Host.{HandsOut}
use Rattle.durable_host.specs.inner.Running.{seen}
use Rattle.durable_host.proofs.Hosts.{front_moved, hands_out, sound_keeps, takes_sound}
use Rattle.durable_host.proofs.host.DurableHost.take_out.Goals as goal

pub invariant_of-self : goal.invariant_of-self
invariant_of-self g c =
    let few : c.take_out.result ≤ free_of (listed c.self.inside.parts.core.register c.args.client) = omega (arith, c.take_out.ensures.count) in
    rw c.take_out.ensures.left (takes_sound g.D.Dir.told c.self.inside.parts c.args.client c.take_out.result few c.self.inside.stopped c.self.invariant)

pub returns-clause-moved : goal.returns-clause-moved
returns-clause-moved g c =
    let host = seen c.self.inside.stopped c.self.inside.ending c.self.inside.parts in
    let few : c.take_out.result ≤ free_of (listed c.self.inside.parts.core.register c.args.client) = omega (arith, c.take_out.ensures.count) in
    let kept = sound_keeps g.D.Dir.told c.self.inside.stopped c.self.inside.ending c.self.inside.parts c.self.invariant in
    let front = front_moved g.D.Dir.told host kept c.args.client c.take_out.result c.args.into.now c.take_out.new.into few c.take_out.ensures.moved in
    subst (λ host. HandsOut host c.args.client (take c.take_out.result c.take_out.new.into)) c.self.view_is
    (hands_out g.D.Dir.told host kept c.args.client c.take_out.result
    (take c.take_out.result c.take_out.new.into) few front.0 front.1)

pub returns-clause-kept : goal.returns-clause-kept
returns-clause-kept g c =
    let few : c.take_out.result ≤ free_of (listed c.self.inside.parts.core.register c.args.client) = omega (arith, c.take_out.ensures.count) in
    sound_keeps g.D.Dir.told c.self.inside.stopped c.self.inside.ending _
    (rw c.take_out.ensures.left (takes_sound g.D.Dir.told c.self.inside.parts c.args.client c.take_out.result few c.self.inside.stopped c.self.invariant))
