-- Serves the clause on who stands in the lines afterwards.
use Rattle.std.proofs.Common.{take}
use Rattle.key_events.specs.inner.Listing.{Leaves}
use Rattle.key_events.proofs.lines.Lines.remove_all.Given as goal

abbrev pub invariant-loop-name : goal.invariant-loop-name
invariant-loop-name l = Leaves (take l.name-index l.names) l.client l.fn.self l.self
