use Rattle.std.proofs.Common.{◌≡◌, ◌++◌, map}
use Rattle.mod_samples.proofs.CountRuns.{set_of}
use Rattle.mod_samples.proofs.CountTree.{read}
use Rattle.mod_samples.proofs.word_count.WordCountModule.rewrite.Given as goal

abbrev pub invariant-loop-word : goal.invariant-loop-word
invariant-loop-word l =
    map (set_of l.key) l.value.counts ≡ l.effects ++ map (set_of l.key) (map (read (λ k. k.items)) l.word-iterator)
