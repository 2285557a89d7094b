-- Serves the clauses of `DurableHost::step`.
use Rattle.std.proofs.Common.{refl, sym, ap, subst, ◌∙◌, false, Some, None}
use Rattle.durable_host.specs.Crash.{HoldsFrom}
use Rattle.durable_host.specs.Host.{KeepsHistory}
use Rattle.durable_host.specs.Kept.{with_event}
use Rattle.durable_host.specs.Steps.{Happens}
use Rattle.durable_host.specs.inner.Running.{seen}
use Rattle.disk_model.proofs.Moments as moments
use Rattle.durable_host.proofs.Histories.{holds_further}
use Rattle.durable_host.proofs.Hosts.{sound_keeps}
use Rattle.durable_host.proofs.Running.{keeps}
use Rattle.durable_host.proofs.host.DurableHost.step.Goals as goal

pub returns-in-Some-clause-crash : goal.returns-in-Some-clause-crash
returns-in-Some-clause-crash g c =
    let host = c.args.self.now in
    let kept = subst (KeepsHistory g.D.Dir.told) c.self.view_is (sound_keeps g.D.Dir.told c.self.inside.stopped c.self.inside.ending c.self.inside.parts c.self.invariant) in
    moments.no_call (g.D.Dir.told host.dir) (g.D.Dir.told host.dir) (HoldsFrom (with_event c.args.event host.kept) host.safe) refl
    (λ image may. holds_further host.kept c.args.event host.safe image (kept.images image may))

pub invariant_of-self-in-Err : goal.invariant_of-self-in-Err
invariant_of-self-in-Err g c = rw c.cause.ensures.cause (c.in-Err.ensures.wrong.kept false)

pub returns-in-Ok-clause-happens : goal.returns-in-Ok-clause-happens
returns-in-Ok-clause-happens g c =
    let told = g.D.Dir.told in
    let ending = c.self.inside.ending in
    let before = ap (λ stopped. seen stopped ending c.self.inside.parts) (sym c.in_default.is) ∙ c.self.view_is in
    let after = ap (λ stopped. seen stopped ending c.make.new.self) (sym c.in_default.is) in
    subst (λ host. Happens told c.args.event c.in-Ok.answer c.args.self.now host) after
    (subst (λ host. Happens told c.args.event c.in-Ok.answer host (seen None ending c.make.new.self)) before (c.in-Ok.ensures.well.happens ending))

pub returns-in-Ok-clause-kept : goal.returns-in-Ok-clause-kept
returns-in-Ok-clause-kept g c =
    let ending = c.self.inside.ending in
    subst (KeepsHistory g.D.Dir.told) (ap (λ stopped. seen stopped ending c.make.new.self) (sym c.in_default.is)) (keeps g.D.Dir.told c.make.new.self c.in-Ok.ensures.well.running ending)

pub returns-in-Err-clause-kept : goal.returns-in-Err-clause-kept
returns-in-Err-clause-kept g c =
    let ending = c.self.inside.ending in
    subst (KeepsHistory g.D.Dir.told) (ap (λ cause. seen (Some cause) ending c.make.new.self) (sym c.cause.ensures.cause)) (c.in-Err.ensures.wrong.kept ending)
