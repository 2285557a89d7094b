use Rattle.std.proofs.Common.{◌≡◌, ◌-◌, None, length, true}
use Rattle.std.specs.Option.{option_copied}
use Rattle.mod_samples.specs.CountParts.{counts_after, counts_in}
use Rattle.mod_samples.specs.Counts.{are_counts, last_word}
use Rattle.mod_samples.proofs.CountsRead.{behind_counts}
use Rattle.mod_samples.proofs.count_reading.counts_in.Given as goal

abbrev pub invariant-loop : goal.invariant-loop
invariant-loop l =
    record {
      rising : are_counts l.counts ≡ true;
      last : option_copied l.last ≡ last_word None l.counts;
      read : counts_in l.items ≡ behind_counts l.counts
          (counts_after (option_copied l.last) (l.count - l.counter) (length l.taking.taken) l.taking.left);
    }
