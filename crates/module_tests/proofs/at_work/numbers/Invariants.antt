use Rattle.std.proofs.Common.{◌≡◌, true}
use Rattle.std.specs.List.{list_all}
use Rattle.module_laws.specs.Types.{is_short}
use Rattle.module_tests.proofs.at_work.numbers.Given as goal

abbrev pub invariant-loop-n : goal.invariant-loop-n
invariant-loop-n l = list_all is_short l.items ≡ true
