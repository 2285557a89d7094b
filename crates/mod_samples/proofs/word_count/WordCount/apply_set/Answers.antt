-- Serves the clause of apply_set.
use Rattle.std.proofs.Common.{refl, arith}
use Rattle.mod_samples.proofs.CountRuns.{applied_set}
use Rattle.mod_samples.proofs.word_count.WordCount.apply_set.Goals as goal

pub returns-in-Ok-set : goal.returns-in-Ok-set
returns-in-Ok-set c =
    let value = c.in-Some.value in
    rw c.in-Some.is (record {
      applies = record {
        value = applied_set c.args.word.now c.args.n value.counts c.set.new.self.counts value.counted c.requires c.in-Ok-set.ensures.ok;
        back = tt;
        private = refl;
        counted = record { made = omega arith; freed = omega arith; balance = omega arith };
        kept = tt;
        spent = tt;
      };
      made = omega arith;
    })
