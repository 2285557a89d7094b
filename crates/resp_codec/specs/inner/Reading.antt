-- What a step of reading says and does.
use Rattle.std.specs.Prelude.{◌≡◌, ℕ, ◌<◌, [], ◌++◌, length}
use Rattle.resp_codec.specs.Stream.{Stream, Takes, Waits, Refuses, SkipsOnly}
use Rattle.resp_codec.specs.inner.Underway.{begun}
use Rattle.resp_codec.specs.declared.reading.Reading.{Reading}
use Rattle.resp_codec.specs.declared.reading.Step.{Step}
use Rattle.resp_codec.specs.declared.reading.Step.TheVariants as step

-- the stream so far
abbrev pub seen : Reading → Stream
seen r = record {
  passed = r.passed;
  rest =
      begun r.stage r.count r.draft.words ++ (r.draft.tail ++ r.input);
}

-- of a word of this length all came, or nothing is left of the input
abbrev pub IsGathered : ℕ → Reading → Type 0
IsGathered len r = length r.draft.tail < len → r.input ≡ []

-- an answer is so, and what a step passed are empty requests, or is what it took
abbrev pub Steps : Reading → Reading → Step → Type 0
Steps old new step.Onward = SkipsOnly (seen old) (seen new) × (length new.input < length old.input)
Steps old new (step.Took words) = Takes (seen old) (seen new) words
Steps old new step.Wait = Waits (seen old) (seen new)
Steps old new (step.Bad kind offset) = Refuses (seen old) (seen new) kind offset
