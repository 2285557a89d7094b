-- serves clause `kept` of ListBody::keep_range
use Rattle.std.proofs.Common.{◌≡◌, ◌≤◌, drop}
use Rattle.std.specs.VecDeque.{deque_len}
use Rattle.core_types.proofs.list_body.keep_range.Given as goal

abbrev pub invariant-loop-more : goal.invariant-loop-more
invariant-loop-more l = (drop l.more l.items.items ≡ drop l.start l.initial.items.items) × (l.more ≤ deque_len l.items)

abbrev pub decreases-loop-more : goal.decreases-loop-more
decreases-loop-more l = l.more
