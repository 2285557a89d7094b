-- Serves the clause of all_shown.
use Rattle.std.proofs.Common.{◌≡◌, take}
use Rattle.hash_cmds.specs.Reading.{shown_of}
use Rattle.hash_cmds.proofs.reading.all_shown.Given as goal

abbrev pub invariant-loop-place : goal.invariant-loop-place
invariant-loop-place l = l.replies ≡ shown_of l.what (take l.place l.hash)
