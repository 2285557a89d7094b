use Rattle.std.proofs.Common.{◌≡◌, ◌+◌, length}
use Rattle.key_events.specs.Patterns.{some_end, fits, pieces_of}
use Rattle.key_events.proofs.matching.matches_an_end.Given as goal

abbrev pub invariant-loop-behind : goal.invariant-loop-behind
invariant-loop-behind l = some_end (fits (pieces_of l.fn.pattern)) l.fn.text
    ≡ some_end (fits (pieces_of l.rest)) l.left

abbrev pub decreases-loop-behind : goal.decreases-loop-behind
decreases-loop-behind l = length l.rest + length l.left
