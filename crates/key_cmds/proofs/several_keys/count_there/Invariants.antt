-- Serves the clauses of count_there: those that are left count, as if all of them were there.
use Rattle.std.proofs.Common.{◌≡◌, ◌<◌, ◌^◌, ◌+◌, length, filter}
use Rattle.key_cmds.specs.SeveralKeys.{is_there}
use Rattle.key_cmds.proofs.several_keys.count_there.Given as goal

abbrev pub invariant-loop-name : goal.invariant-loop-name
invariant-loop-name g l =
    (l.count + length (filter (is_there l.keys) l.name-iterator)
    ≡ length (filter (is_there l.keys) l.fn.names) + length l.name-iterator)
    × (l.count < 2 ^ 63)
