-- A reader of requests that knows where each begins.
use Rattle.std.specs.Prelude.{◌≡◌, ◌<◌, ◌≤◌, ◌+◌, ◌^◌, ◌++◌, ℕ, List, [], ◌∷◌, length, drop, Option, None, Some}
use Rattle.resp_codec.specs.Marks.{lf}
use Rattle.resp_codec.specs.Stream.{Stream, SkipsOnly, Waits, IsUnfinished}
use Rattle.resp_codec.specs.Requests.{Span, IsSpan}
use Rattle.replica_feed.specs.Reading.{TakesAt, BreaksFrom}
use Rattle.replica_feed.specs.declared.requests.Came.{Came}
use Rattle.replica_feed.specs.declared.requests.Came.TheVariants as came
use Rattle.replica_feed.specs.declared.requests.Requests.{Requests}

-- the stream so far
abbrev pub seen : Requests → Stream
seen r = record { passed = r.reader.passed; rest = r.reader.rest ++ drop r.place r.waiting }

-- what is read as one, and begins these bytes, is all of them
abbrev pub HoldsOne : List ℕ → Type 0
HoldsOne bytes = (span : Span) (more : List ℕ) → IsSpan span → bytes ≡ span.bytes ++ more
    → more ≡ []

-- an LF stands nowhere but at the end
abbrev pub IsLineAhead : List ℕ → Type 0
IsLineAhead bytes = (front more : List ℕ) → bytes ≡ front ++ lf ∷ more → more ≡ []

-- What holds at every moment: the bytes that were handed on are counted, and of them at most one
-- request was not passed, and it is all that is left.
pub record IsPlaced (r : Requests) : Type 0 where
  pub handed_is : r.handed ≡ r.reader.passed + length r.reader.rest
  pub within : r.place ≤ length r.waiting
  pub small : r.handed + length r.waiting < 2 ^ 64 + r.place
  pub one : HoldsOne r.reader.rest

-- what comes next is so
abbrev pub Comes : Stream → Stream → Came → Type 0
Comes old new (came.Request offset words) = TakesAt old new offset words
Comes old new came.More = Waits old new
Comes old new (came.Bad offset kind) = BreaksFrom old new offset kind

-- what a look at the reader gave; where it gave nothing, no whole request was handed on
abbrev pub Looks : Requests → Requests → Option Came → Type 0
Looks old new (Some next) = Comes (seen old) (seen new) next
Looks old new None = SkipsOnly (seen old) (seen new) × IsUnfinished new.reader.rest
