-- Serves clause runs of WordCount::store.
use Rattle.std.proofs.Common.{◌≡◌, true, refl, sym, ap, ◌∙◌}
use Rattle.module_laws.specs.Replay.{with_after}
use Rattle.module_laws.specs.Told.{with_keys}
use Rattle.mod_samples.specs.Counts.{some_counts, with_count}
use Rattle.mod_samples.specs.WordCount.{count_name, value_of, wordcount, words_at}
use Rattle.mod_samples.proofs.CountRuns.{some_with, store_full, value_is, words_rise}
use Rattle.mod_samples.proofs.Running.{stores}
use Rattle.mod_samples.proofs.word_count.WordCount.store.Goals as goal

pub returns-in_ok-write-in-Some-clause-runs : goal.returns-in_ok-write-in-Some-clause-runs
returns-in_ok-write-in-Some-clause-runs g c =
    let old = g.C.Context.told c.args.ctx.now in let key = c.args.key.now in let word = c.args.word.now in let n = c.args.n in
    let cs = words_at old.seen.keys key in
    let some : some_counts (with_count word n cs) ≡ true = some_with word n cs (words_rise old.seen.keys key) c.requires.count in
    stores wordcount refl key (value_of (with_count word n cs)) old (g.C.Context.told c.write.new.ctx)
    c.args.self.now.tally.made c.args.self.now.tally.freed c.requires.string
    (λ allowed sound. store_full allowed old.seen sound key word n c.requires.ours c.requires.word)
    (c.in_ok-write-in-Some.ensures.ok ∙ ap (λ v. with_keys (with_after count_name key old.seen.keys v) old) (sym (value_is (with_count word n cs) some)))
