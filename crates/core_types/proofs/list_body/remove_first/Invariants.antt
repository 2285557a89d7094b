-- serves clauses `left` and `count` of ListBody::remove_first
use Rattle.std.proofs.Common.{◌≡◌, ◌+◌, ◌-◌, ◌≤◌, ◌++◌, take, drop}
use Rattle.std.specs.VecDeque.{deque_len}
use Rattle.core_types.specs.Equal.{without_first}
use Rattle.core_types.proofs.list_body.remove_first.Given as goal

-- what stays so far, and what will stay of the rest, make the result
abbrev pub invariant-loop-more : goal.invariant-loop-more
invariant-loop-more l =
    (drop l.more l.items.items ++ without_first (l.most - l.removed) l.item (take l.more l.items.items) ≡ without_first l.most l.item l.fn.items.items)
    × (l.removed + deque_len l.items ≡ deque_len l.fn.items)
    × (l.removed ≤ l.most)
    × (l.more ≤ deque_len l.items)

abbrev pub decreases-loop-more : goal.decreases-loop-more
decreases-loop-more l = l.more
