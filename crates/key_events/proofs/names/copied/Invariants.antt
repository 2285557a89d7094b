-- Serves the clause on the copies.
use Rattle.std.proofs.Common.{◌≡◌, take}
use Rattle.key_events.proofs.names.copied.Given as goal

abbrev pub invariant-loop-name : goal.invariant-loop-name
invariant-loop-name l = l.copies ≡ take l.name-index l.names
