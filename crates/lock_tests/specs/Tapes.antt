-- A state that keeps all its events, and shows no more than where its history ends.
use Rattle.std.specs.Prelude.{◌+◌, length}
use Rattle.core_types.specs.Shown.{Shown}
use Rattle.context_lock.specs.declared.view.History.{History}
use Rattle.context_lock.specs.inner.Rule.{nothing_shown}
use Rattle.lock_tests.specs.declared.tape.Tape.{Tape}

abbrev pub history_of : Tape → History
history_of tape = record { first = 0; events = tape.events }

abbrev pub shown_of : Tape → Shown
shown_of tape = record nothing_shown { first = 0; end = 0 + length tape.events }
