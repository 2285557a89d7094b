-- The whole reading of a byte list: its requests in order, and how it ends.
use Rattle.std.specs.Prelude.{◌≡◌, ℕ, ◌+◌, List, [], ◌∷◌, ◌++◌, length, Bool, false, Option, MatchOption, codes, if◌then◌else◌}
use Rattle.std.specs.Option.{option_to_list}
use Rattle.std.specs.Str.{str_eq_ignore_ascii_case}
use Rattle.std.specs.List.{flat_map, AllByRecursion}
use Rattle.core_types.specs.declared.bad_request.BadRequest.{BadRequest}
use Rattle.resp_codec.specs.Spelling.{Spells, Skips}
use Rattle.resp_codec.specs.Faults.{BadAt}
use Rattle.resp_codec.specs.Stream.{Stream, IsUnfinished}

-- bytes that are read as one, and the words of the request that they spell, or none where they are
-- skipped
pub record Span : Type 0 where
  pub bytes : List ℕ
  pub words : Option (List (List ℕ))

abbrev pub IsSpan : Span → Type 0
IsSpan span = MatchOption span.words (Skips span.bytes) (λ words. Spells span.bytes words)

-- the bytes of spans, one after the other
abbrev pub bytes_of : List Span → List ℕ
bytes_of spans = flat_map (λ span. span.bytes) spans

-- their requests, in order
abbrev pub requests_of : List Span → List (List (List ℕ))
requests_of spans = flat_map (λ span. option_to_list span.words) spans

-- These bytes were fed to a stream, and the front that it has passed holds these requests and no
-- others.
pub record IsReadAs (bytes : List ℕ) (requests : List (List (List ℕ)))
    (stream : Stream) : Type 0 where
  pub spans : List Span
  pub each : AllByRecursion IsSpan spans
  pub whole : bytes ≡ bytes_of spans ++ stream.rest
  pub passed : stream.passed ≡ length (bytes_of spans)
  pub requests_are : requests ≡ requests_of spans

-- how a byte list ends behind its requests
pub data End : Type 0 where
  -- with this many bytes of a request whose end has not come, or none
  Rest : (count : ℕ) → End
  -- at a bad place: its kind, and its offset in the whole list
  Bad : (kind : BadRequest) (offset : ℕ) → End

-- The stream ends so.
abbrev pub EndsAs : Stream → End → Type 0
EndsAs stream (End.Rest count) = IsUnfinished stream.rest × (count ≡ length stream.rest)
EndsAs stream (End.Bad kind offset) = (at : ℕ) × BadAt stream.rest kind at
    × (offset ≡ stream.passed + at)

-- The bytes hold these requests, those that are skipped left out, and then end so.
pub record Requests (bytes : List ℕ) (requests : List (List (List ℕ))) (end : End) : Type 0 where
  pub stream : Stream
  pub read : IsReadAs bytes requests stream
  pub ends : EndsAs stream end

-- the same end, counted from this many bytes before
abbrev pub behind : ℕ → End → End
behind count (End.Rest rest) = End.Rest rest
behind count (End.Bad kind offset) = End.Bad kind (count + offset)

-- the one word QUIT, in any case of letters
abbrev pub quits : List (List ℕ) → Bool
quits [] = false
quits (word ∷ []) = str_eq_ignore_ascii_case word (codes "QUIT")
quits (word ∷ next ∷ more) = false

-- requests up to and with the first that is QUIT, or all of them
abbrev pub up_to_quit : List (List (List ℕ)) → List (List (List ℕ))
up_to_quit [] = []
up_to_quit (words ∷ more) = words ∷ (if quits words then [] else up_to_quit more)

-- The requests that are served of these bytes: all of them, up to and with the first QUIT.
pub record Served (bytes : List ℕ) (served : List (List (List ℕ))) : Type 0 where
  pub requests : List (List (List ℕ))
  pub end : End
  pub reading : Requests bytes requests end
  pub served_are : served ≡ up_to_quit requests
