use Rattle.std.proofs.Common.{◌≡◌, ◌++◌}
use Rattle.std.specs.VecDeque.Iter.{deque_iter_rest}
use Rattle.client_book.proofs.entry.copy_pending.Given as goal

-- the copies so far, and the items that are left
abbrev pub invariant-loop-item : goal.invariant-loop-item
invariant-loop-item l = l.copies ++ deque_iter_rest l.item-iterator ≡ l.items.items
