use Rattle.std.proofs.Common.{◌≡◌, ◌++◌, map}
use Rattle.client_book.specs.inner.Entry.{client_of}
use Rattle.client_book.proofs.table.copy_records.Given as goal

-- the copies so far, and the entries that are left
abbrev pub invariant-loop-client : goal.invariant-loop-client
invariant-loop-client l = l.records.items ++ map (λ e. (e.0, client_of e.1)) l.client-iterator ≡ map (λ e. (e.0, client_of e.1)) l.clients.entries
