-- What a directory is opened from.
use Rattle.std.specs.Prelude.{◌≡◌, ◌≤◌, false, ℕ, List, [], length, take, Option, Some, None, IfSome, Result}
use Rattle.core_types.specs.Keys.{Keys, no_keys}
use Rattle.disk_model.specs.Files.{Files}
use Rattle.disk_model.specs.Past.{Call}
use Rattle.disk_model.specs.Runs.{SameDisk}
use Rattle.disk_model.specs.Told.{Told}
use Rattle.effect_log.specs.Replay.{Meaning, Holds}
use Rattle.restart.specs.Calls.{keeping_calls, LookAsks}
use Rattle.restart.specs.declared.finding.Found.{Found}
use Rattle.restart.specs.declared.finding.Found.TheVariants as found
use Rattle.restart.specs.declared.opening.Opened.{Opened}
use Rattle.restart.specs.declared.opening.OpenStop.{OpenStop}

-- a log of these bytes, or neither a log nor a dump
abbrev pub IsThereAs : Found → Option Files → Type 0
IsThereAs (found.Log bytes kept) files =
    (kept ≤ length bytes) × IfSome files (λ known. known.log ≡ Some bytes)
IsThereAs found.Nothing files = IfSome files (λ known. (known.log ≡ None) × (known.dump ≡ None))

-- it stands for these keys
abbrev pub StandsFor : Meaning → Found → Keys → Type 0
StandsFor replay (found.Log bytes kept) keys = Holds replay bytes keys kept
StandsFor replay found.Nothing keys = keys ≡ no_keys

-- the bytes of the log that is opened
abbrev pub log_of : Found → List ℕ
log_of (found.Log bytes kept) = take kept bytes
log_of found.Nothing = []

-- what is told of it
abbrev pub opened_of : Found → Opened
opened_of (found.Log bytes kept) = record { length = length bytes; kept = kept; imported = false }
opened_of found.Nothing = record { length = 0; kept = 0; imported = false }

-- Finding it asked for reads alone: of the log, and where there is none of the dump.
pub record LooksOnly (result : Result Found OpenStop) (old new : Told) : Type 0 where
  pub same : SameDisk old new
  pub calls : LookAsks result old new

-- the calls that make it an open log
abbrev pub calls_to_keep : Found → List Call
calls_to_keep (found.Log bytes kept) = keeping_calls (Some bytes) kept
calls_to_keep found.Nothing = keeping_calls None 0
