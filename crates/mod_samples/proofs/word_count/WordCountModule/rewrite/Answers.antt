-- Serves clause builds of WordCount::rewrite.
use Rattle.std.proofs.Common.{◌++◌, map, ap, ◌∙◌, subst}
use Rattle.std.proofs.lemmas.List.{append-nil}
use Rattle.module_laws.specs.Rewriting.{Rebuilds}
use Rattle.mod_samples.specs.CountParts.{saved_counts}
use Rattle.mod_samples.specs.WordCount.{wordcount}
use Rattle.mod_samples.proofs.CountRuns.{rebuilds, set_of}
use Rattle.mod_samples.proofs.CountTree.{read}
use Rattle.mod_samples.proofs.word_count.WordCountModule.rewrite.Goals as goal

pub returns : goal.returns
returns c =
    let value = c.args.value.now in let key = c.args.key.now in
    record {
      builds = subst (Rebuilds wordcount key (saved_counts value.counts))
          (c.loop-word.invariant ∙ ap (λ es. c.loop-word.effects ++ map (set_of key) (map (read (λ k. k.items)) es)) c.in-None.ensures.steps.0
          ∙ append-nil c.loop-word.effects)
          (rebuilds key value.counts c.requires.key value.counted c.requires.short);
    }
