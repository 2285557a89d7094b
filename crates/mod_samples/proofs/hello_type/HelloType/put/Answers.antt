-- Serves clause runs of HelloType::put.
use Rattle.std.proofs.Common.{[], ◌∷◌, None, refl, ap, ◌∙◌}
use Rattle.std.specs.Int.{w64}
use Rattle.std.proofs.lemmas.Int.{to_z-of_z}
use Rattle.module_laws.specs.Replay.{own_value}
use Rattle.module_laws.specs.Told.{with_put}
use Rattle.mod_samples.specs.HelloNumbers.{saved_numbers}
use Rattle.mod_samples.specs.HelloType.{hello_name, hellotype, shown}
use Rattle.mod_samples.proofs.Running.{puts}
use Rattle.mod_samples.proofs.hello_type.HelloType.put.Goals as goal

pub returns-in-Ok-clause-runs : goal.returns-in-Ok-clause-runs
returns-in-Ok-clause-runs g c =
    let old = g.C.Context.told c.args.ctx.now in let new = g.C.Context.told c.set_native.new.self in
    puts hellotype refl c.args.key.now (saved_numbers (c.args.n ∷ [])) None old new c.args.self.now.tally.made c.make.new.self.tally.made c.args.self.now.tally.freed c.make.new.self.tally.freed
    c.requires.string refl (ap (own_value hello_name) c.requires.absent)
    (c.in-Ok.ensures.ok ∙ ap (λ ns. with_put c.args.key.now (shown ns) new.has_serial old) (c.in_ok-value.ensures.numbers ∙ c.in_ok-numbers.ensures ∙ ap (λ m. m ∷ []) (to_z-of_z w64 c.args.n c.ranges.n)))
    c.in_ok-value.ensures.ok c.make.ensures.freed
