use Rattle.std.proofs.Common.{◌≡◌, length, ◌-◌}
use Rattle.replica_feed.specs.inner.Texts.{IsRead}
use Rattle.replica_feed.proofs.words.read_rest.Given as goal

abbrev pub invariant-loop-first : goal.invariant-loop-first
invariant-loop-first l = IsRead l.reader l.first l.alone × (l.reader.bytes ≡ l.initial.reader.bytes)

abbrev pub decreases-loop-first : goal.decreases-loop-first
decreases-loop-first l = length l.reader.bytes - l.reader.place
