use Rattle.std.proofs.Common.{◌≡◌, map, take}
use Rattle.mod_samples.proofs.HelloRuns.{insert_effect}
use Rattle.mod_samples.proofs.hello_type.HelloTypeModule.rewrite.Given as goal

abbrev pub invariant-loop-n : goal.invariant-loop-n
invariant-loop-n l = l.effects ≡ map (insert_effect l.key) (take l.n-index l.n-items)
