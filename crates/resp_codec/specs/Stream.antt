-- What a stream of requests says, whatever pieces it comes in.
use Rattle.std.specs.Prelude.{◌≡◌, ◌≢◌, ℕ, ◌+◌, List, ◌++◌, length}
use Rattle.std.specs.List.{concat}
use Rattle.core_types.specs.declared.bad_request.BadRequest.{BadRequest}
use Rattle.resp_codec.specs.Spelling.{Spells, Skips, SkipsAll}
use Rattle.resp_codec.specs.Faults.{BadAt}

-- a stream that is read: how many of its bytes were passed, and those that were fed beyond them
pub record Stream : Type 0 where
  pub passed : ℕ
  pub rest : List ℕ

-- how many bytes were fed
abbrev pub fed : Stream → ℕ
fed s = s.passed + length s.rest

-- These bytes were passed: the stream goes on behind them.
pub record Passes (old new : Stream) (bytes : List ℕ) : Type 0 where
  pub rest : old.rest ≡ bytes ++ new.rest
  pub passed : new.passed ≡ old.passed + length bytes

-- what was passed are empty requests, and then spells a request of these words
pub record Takes (old new : Stream) (words : List (List ℕ)) : Type 0 where
  pub skipped : List (List ℕ)
  pub bytes : List ℕ
  pub skips : SkipsAll skipped
  pub spells : Spells bytes words
  pub passes : Passes old new (concat skipped ++ bytes)

-- What was passed are empty requests.
pub record SkipsOnly (old new : Stream) : Type 0 where
  pub skipped : List (List ℕ)
  pub skips : SkipsAll skipped
  pub passes : Passes old new (concat skipped)

-- no whole request, nothing that is skipped, and no bad place
pub record IsUnfinished (bytes : List ℕ) : Type 0 where
  pub no_request : (front more : List ℕ) (words : List (List ℕ)) → Spells front words
      → bytes ≢ front ++ more
  pub no_skip : (front more : List ℕ) → Skips front → bytes ≢ front ++ more
  pub no_fault : (kind : BadRequest) (at : ℕ) → ¬ BadAt bytes kind at

-- what was passed are empty requests, and more bytes are wanted
pub record Waits (old new : Stream) : Type 0 where
  pub skipped : List (List ℕ)
  pub skips : SkipsAll skipped
  pub passes : Passes old new (concat skipped)
  pub unfinished : IsUnfinished new.rest

-- what was passed are empty requests, and then a bad place comes, at this offset in the whole
-- stream
pub record Refuses (old new : Stream) (kind : BadRequest) (offset : ℕ) : Type 0 where
  pub skipped : List (List ℕ)
  pub at : ℕ
  pub skips : SkipsAll skipped
  pub passes : Passes old new (concat skipped)
  pub bad : BadAt new.rest kind at
  pub place : offset ≡ new.passed + at
