use Rattle.std.proofs.Common.{◌≡◌, ◌++◌, drop}
use Rattle.mod_samples.specs.HelloNumbers.{parts_after, saved_numbers}
use Rattle.mod_samples.proofs.reading.saved.Given as goal

abbrev pub invariant-loop-n : goal.invariant-loop-n
invariant-loop-n l = saved_numbers l.numbers ≡ l.out ++ parts_after l.last (drop l.n-index l.numbers)
