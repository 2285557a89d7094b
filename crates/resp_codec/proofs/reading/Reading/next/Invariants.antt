use Rattle.std.proofs.Common.{length}
use Rattle.resp_codec.specs.Stream.{SkipsOnly}
use Rattle.resp_codec.specs.inner.Reading.{seen}
use Rattle.resp_codec.proofs.reading.Reading.next.Given as goal

abbrev pub invariant-loop-words : goal.invariant-loop-words
invariant-loop-words l = SkipsOnly (seen l.initial.self) (seen l.self)

abbrev pub decreases-loop-words : goal.decreases-loop-words
decreases-loop-words l = length l.self.input
