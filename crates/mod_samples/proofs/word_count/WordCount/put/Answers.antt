-- Serves clause runs of WordCount::put.
use Rattle.std.proofs.Common.{◌+◌, [], ◌∷◌, None, refl, ap, subst, ◌∙◌}
use Rattle.core_types.specs.declared.stop.Stop.TheVariants as stop
use Rattle.module_laws.specs.Meaning.{type_of}
use Rattle.module_laws.specs.Replay.{own_value}
use Rattle.module_laws.specs.Told.{MayRefuse, with_put}
use Rattle.mod_samples.specs.CountParts.{saved_counts}
use Rattle.mod_samples.specs.Counts.{counted}
use Rattle.mod_samples.specs.WordCount.{count_name, counts_shown, wordcount}
use Rattle.mod_samples.specs.inner.CountLaws.{with_full}
use Rattle.mod_samples.proofs.Running.{puts, refused}
use Rattle.mod_samples.proofs.word_count.WordCount.put.Goals as goal

pub returns-in-Ok-clause-runs : goal.returns-in-Ok-clause-runs
returns-in-Ok-clause-runs g c =
    let old = g.C.Context.told c.args.ctx.now in let new = g.C.Context.told c.set_native.new.self in
    puts wordcount refl c.args.key.now (saved_counts (counted c.args.word.now c.args.n ∷ [])) None old new c.args.self.now.tally.made c.make.new.self.tally.made c.args.self.now.tally.freed c.make.new.self.tally.freed
    c.requires.string (with_full None c.args.word.now c.args.n tt c.requires.word) (ap (own_value count_name) c.requires.absent)
    (c.in-Ok.ensures.ok ∙ ap (λ cs. with_put c.args.key.now (counts_shown cs) new.has_serial old) (c.in_ok-value.ensures.counts ∙ c.in_ok-counts.ensures))
    c.in_ok-value.ensures.ok c.make.ensures.freed

pub returns-in-NumbersSpent-clause-runs : goal.returns-in-NumbersSpent-clause-runs
returns-in-NumbersSpent-clause-runs g c =
    let old = g.C.Context.told c.args.ctx.now in let new = g.C.Context.told c.set_native.new.self in
    refused (type_of wordcount) _ stop.NumbersSpent old new c.args.self.now.tally.made c.free.new.self.tally.made c.args.self.now.tally.freed c.free.new.self.tally.freed
    c.in-Err.ensures.err (ap (λ s. s.made) c.free.ensures.freed ∙ c.in_ok-value.ensures.ok) (ap (λ s. s.freed) c.free.ensures.freed ∙ ap (λ f. f + 1) c.make.ensures.freed)
    (λ ends. subst (MayRefuse old) c.in-NumbersSpent.is c.in-Err.ensures.back.1)

pub returns-in_default-clause-runs : goal.returns-in_default-clause-runs
returns-in_default-clause-runs g c =
    let old = g.C.Context.told c.args.ctx.now in let new = g.C.Context.told c.set_native.new.self in
    refused (type_of wordcount) _ stop.Memory old new c.args.self.now.tally.made c.free.new.self.tally.made c.args.self.now.tally.freed c.free.new.self.tally.freed
    c.in-Err.ensures.err (ap (λ s. s.made) c.free.ensures.freed ∙ c.in_ok-value.ensures.ok) (ap (λ s. s.freed) c.free.ensures.freed ∙ ap (λ f. f + 1) c.make.ensures.freed) (λ ends. cc)
