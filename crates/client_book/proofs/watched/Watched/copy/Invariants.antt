use Rattle.std.proofs.Common.{◌≡◌, ◌++◌, map}
use Rattle.client_book.proofs.watched.Watched.copy.Given as goal

-- the copies so far, and the keys that are left
abbrev pub invariant-loop-key : goal.invariant-loop-key
invariant-loop-key l = l.keys ++ map (λ key. key.items) l.key-iterator ≡ l.self
