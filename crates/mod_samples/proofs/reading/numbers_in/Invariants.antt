use Rattle.std.proofs.Common.{◌≡◌, ◌-◌, length}
use Rattle.mod_samples.specs.HelloNumbers.{numbers_after, numbers_in}
use Rattle.mod_samples.proofs.ReadingParts.{behind_read, last_of}
use Rattle.mod_samples.proofs.reading.numbers_in.Given as goal

abbrev pub invariant-loop : goal.invariant-loop
invariant-loop l =
    numbers_in l.encver l.items ≡ behind_read l.numbers.items
    (numbers_after l.encver (last_of l.numbers.items) (l.count - l.counter) (length l.taking.taken) l.taking.left)
