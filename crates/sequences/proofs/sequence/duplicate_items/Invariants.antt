-- Serves clause same of duplicate_items.
use Rattle.std.proofs.Common.{◌≡◌, take}
use Rattle.sequences.proofs.sequence.duplicate_items.Given as goal

abbrev pub invariant-loop-item : goal.invariant-loop-item
invariant-loop-item g l = l.copies.items ≡ take l.item-index l.items
