-- Serves clauses wrong and crash of `Parts::make`.
use Rattle.std.proofs.Common.{refl, inl, arith}
use Rattle.durable_host.specs.inner.Running.{kept_of}
use Rattle.durable_host.proofs.Ends.{wrong_numbers}
use Rattle.durable_host.proofs.Running.{asked_nothing}
use Rattle.durable_host.proofs.Streams.{same_places}
use Rattle.durable_host.proofs.parts.Parts.make.Goals as goal

pub returns-then-saturating_add-clause-wrong : goal.returns-then-saturating_add-clause-wrong
returns-then-saturating_add-clause-wrong g c =
    wrong_numbers g.D.Dir.told c.args.self.now c.args.self.now c.requires.runs c.args.event refl refl refl refl (same_places c.args.self.now.core.register) (inl refl)
    (omega (arith, c.if-saturating_add.true, c.saturating_add.ensures, c.len.ensures.length, c.requires.runs.history.counted))

pub returns-then-saturating_add-clause-crash : goal.returns-then-saturating_add-clause-crash
returns-then-saturating_add-clause-crash g c =
    asked_nothing (kept_of c.args.self.now) c.args.self.now.safe (g.D.Dir.told c.args.self.now.dir) (g.D.Dir.told c.args.self.now.dir) c.requires.runs.history c.requires.runs.log c.args.event refl
