use Rattle.std.proofs.Common.{◌≡◌, take}
use Rattle.type_ids.specs.Id.{letters_value}
use Rattle.type_ids.proofs.id.number_of_letters.Given as goal

abbrev pub invariant-loop-letter : goal.invariant-loop-letter
invariant-loop-letter l = l.number ≡ letters_value (take l.letter-index l.text)
