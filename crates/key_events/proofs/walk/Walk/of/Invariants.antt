use Rattle.std.proofs.Common.{◌≤◌, length}
use Rattle.key_events.specs.Patterns.{pieces_of}
use Rattle.key_events.specs.inner.Walks.{Reaches}
use Rattle.key_events.proofs.walk.Walk.of.Given as goal

abbrev pub invariant-loop-piece : goal.invariant-loop-piece
invariant-loop-piece l = Reaches (pieces_of l.fn.pattern) l.fn.text (pieces_of l.rest) l.left
    × (length l.rest ≤ length l.fn.pattern) × (length l.left ≤ length l.fn.text)

abbrev pub decreases-loop-piece : goal.decreases-loop-piece
decreases-loop-piece l = length l.rest
