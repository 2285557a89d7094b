-- serves clause `ok` of ListBody::extend_front
use Rattle.std.proofs.Common.{◌≡◌, ◌+◌, ◌≤◌, ◌++◌, reverse}
use Rattle.std.specs.VecDeque.{deque_len, deque_capacity}
use Rattle.core_types.proofs.list_body.extend_front.Given as goal

-- what is to come turned round, and what is there, make the result; there is room for all of it
abbrev pub invariant-loop-item : goal.invariant-loop-item
invariant-loop-item l =
    (reverse l.turned.items ++ l.items.items ≡ reverse l.fn.more.items ++ l.fn.items.items)
    × (deque_len l.items + deque_len l.turned ≤ deque_capacity l.items)

abbrev pub decreases-loop-item : goal.decreases-loop-item
decreases-loop-item l = deque_len l.turned
