use Rattle.std.proofs.Common.{◌≡◌, ◌++◌, map}
use Rattle.mod_samples.specs.CountParts.{parts_of, saved_counts}
use Rattle.mod_samples.proofs.CountTree.{read}
use Rattle.mod_samples.proofs.count_reading.saved.Given as goal

abbrev pub invariant-loop-word : goal.invariant-loop-word
invariant-loop-word l =
    saved_counts l.counts ≡ l.out ++ parts_of (map (read (λ k. k.items)) l.word-iterator)
