-- Serves the clause of strings: the replies so far, and then those of the keys that are left.
use Rattle.std.proofs.Common.{◌≡◌, ◌+◌, ◌++◌, flat_map, length, map}
use Rattle.core_types.specs.Keys.{value_at}
use Rattle.core_types.specs.Parts.{parts_of}
use Rattle.key_cmds.specs.SeveralKeys.{string_in}
use Rattle.key_cmds.proofs.several_keys.strings.Given as goal

abbrev pub invariant-loop-name : goal.invariant-loop-name
invariant-loop-name g l =
    (l.replies.count + length l.name-iterator ≡ length l.fn.names)
    × (l.replies.parts ++ flat_map parts_of (map (λ key. string_in (value_at l.keys key)) l.name-iterator)
    ≡ flat_map parts_of (map (λ key. string_in (value_at l.keys key)) l.fn.names))
