-- Serves the clauses of replace_each: the pairs so far are set, and there is room for what leaves
-- by those that are left.
use Rattle.std.proofs.Common.{◌≤◌, ◌+◌, length, vec_len, vec_capacity}
use Rattle.std.specs.VecDeque.{deque_len}
use Rattle.key_cmds.specs.SeveralKeys.{left_by_pairs}
use Rattle.key_cmds.proofs.AllOrNone.{AreSetBut}
use Rattle.key_cmds.proofs.all_or_none.replace_each.Given as goal

abbrev pub invariant-loop-setting : goal.invariant-loop-setting
invariant-loop-setting g l =
    AreSetBut l.settings.items l.fn.settings.items
    (record { keys = l.fn.keys; left = l.fn.left.items })
    (record { keys = l.keys; left = l.left.items })
    × (vec_len l.left + length (left_by_pairs l.settings.items l.keys) ≤ vec_capacity l.left)

abbrev pub decreases-loop-setting : goal.decreases-loop-setting
decreases-loop-setting g l = deque_len l.settings
