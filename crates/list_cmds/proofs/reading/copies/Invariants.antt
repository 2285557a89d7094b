-- Serves the clauses of copies.
use Rattle.std.proofs.Common.{◌≡◌, ◌≤◌, ◌-◌}
use Rattle.std.specs.Prelude.{slice_range}
use Rattle.list_cmds.specs.Reading.{bulks}
use Rattle.list_cmds.proofs.reading.copies.Given as goal

abbrev pub invariant-loop-place : goal.invariant-loop-place
invariant-loop-place l =
    (l.start ≤ l.place) × (l.items.count ≡ l.place - l.start)
    × (l.items.parts ≡ bulks (slice_range l.held l.start l.place))
