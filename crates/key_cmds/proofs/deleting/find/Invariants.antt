-- Serves the clauses of find: what was found so far, and then what the names that are left name.
use Rattle.std.proofs.Common.{◌≡◌, ◌≤◌, ◌+◌, ◌++◌, length, vec_len}
use Rattle.key_cmds.specs.inner.Several.{natives_named, notes_named}
use Rattle.key_cmds.proofs.deleting.find.Given as goal

abbrev pub invariant-loop-name : goal.invariant-loop-name
invariant-loop-name g l =
    (l.found.notes.items ++ notes_named l.keys l.name-iterator ≡ notes_named l.keys l.fn.names)
    × (l.found.natives + length (natives_named l.keys l.name-iterator) ≡ length (natives_named l.keys l.fn.names))
    × (l.found.natives ≤ vec_len l.found.notes)
