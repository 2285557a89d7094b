-- Serves clause runs of HelloType::store.
use Rattle.std.proofs.Common.{Some, refl, ap, ◌∙◌}
use Rattle.std.specs.Int.{w64}
use Rattle.std.proofs.lemmas.Int.{to_z-of_z}
use Rattle.module_laws.specs.Told.{with_native}
use Rattle.mod_samples.specs.HelloNumbers.{saved_numbers}
use Rattle.mod_samples.specs.HelloType.{hellotype, list_at, shown}
use Rattle.mod_samples.specs.Rising.{inserted}
use Rattle.mod_samples.specs.inner.HelloLaws.{inserted_full}
use Rattle.mod_samples.proofs.Running.{stores}
use Rattle.mod_samples.proofs.hello_type.HelloType.store.Goals as goal

pub returns-in_ok-write-in-Some-clause-runs : goal.returns-in_ok-write-in-Some-clause-runs
returns-in_ok-write-in-Some-clause-runs g c =
    let old = g.C.Context.told c.args.ctx.now in let key = c.args.key.now in let ns = list_at old.seen.keys key in
    stores hellotype refl key (Some (saved_numbers (inserted c.args.n ns))) old (g.C.Context.told c.write.new.ctx)
    c.args.self.now.tally.made c.args.self.now.tally.freed c.requires.string (λ allowed sound. inserted_full c.args.n ns)
    (c.in_ok-write-in-Some.ensures.ok ∙ ap (λ m. with_native key (shown (inserted m ns)) old) (to_z-of_z w64 c.args.n c.ranges.n))
