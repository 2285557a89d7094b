-- Serves the clause on the copies: those so far, and then the numbers that are left.
use Rattle.std.proofs.Common.{◌≡◌, ◌++◌}
use Rattle.std.specs.VecDeque.Iter.{deque_iter_rest}
use Rattle.blocked_tickets.proofs.ready_line.copied.Given as goal

abbrev pub invariant-loop-number : goal.invariant-loop-number
invariant-loop-number l = l.copies.items ++ deque_iter_rest l.number-iterator ≡ l.numbers.items
