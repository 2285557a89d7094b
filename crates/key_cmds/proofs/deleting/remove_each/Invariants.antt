-- Serves the clauses of remove_each.
use Rattle.std.proofs.Common.{◌≤◌, ◌+◌, length, vec_len, vec_capacity}
use Rattle.std.specs.VecDeque.{deque_len}
use Rattle.key_cmds.specs.inner.Several.{natives_named, note_keys}
use Rattle.key_cmds.proofs.Removing.{IsOnTheWay}
use Rattle.key_cmds.proofs.deleting.remove_each.Given as goal

abbrev pub invariant-loop-note : goal.invariant-loop-note
invariant-loop-note g l =
    IsOnTheWay (record { rest = l.fn.notes.items; keys = l.fn.keys; gone = l.fn.gone.items; left = l.fn.left.items })
    (record { rest = l.notes.items; keys = l.keys; gone = l.gone.items; left = l.left.items })
    × (vec_len l.gone + length l.notes.items ≤ vec_capacity l.gone)
    × (vec_len l.left + length (natives_named l.keys (note_keys l.notes.items)) ≤ vec_capacity l.left)

abbrev pub decreases-loop-note : goal.decreases-loop-note
decreases-loop-note g l = deque_len l.notes
