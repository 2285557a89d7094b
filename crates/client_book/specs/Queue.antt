-- What happens to the commands of a transaction.
use Rattle.std.specs.Prelude.{ℕ, Bool, true, List, [], ◌∷◌, ◌++◌}
use Rattle.client_book.specs.declared.queue.Queue.{Queue}
use Rattle.client_book.specs.declared.queue.Queued.{Queued}

abbrev pub with_command : List (List ℕ) → Queued → Queued
with_command words queued = record queued { commands = queued.commands ++ words ∷ [] }

abbrev pub spoiled : Queued → Queued
spoiled queued = record queued { spoiled = true }

-- as it ends, with the mark of the watches
abbrev pub ended : Bool → Queued → Queue
ended touched queued =
    record { commands = queued.commands; spoiled = queued.spoiled; touched = touched }
