use Rattle.std.proofs.Common.{◌≡◌, map, take}
use Rattle.core_types.specs.declared.part.Part.TheVariants as part
use Rattle.mod_samples.proofs.hello_type.number_array.Given as goal

abbrev pub invariant-loop-n : goal.invariant-loop-n
invariant-loop-n l =
    record { count : l.replies.count ≡ l.n-index; parts : l.replies.parts ≡ map part.Int (take l.n-index l.numbers) }
