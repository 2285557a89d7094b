-- How far a log was replayed.
use Rattle.std.specs.Prelude.{◌≡◌, ℕ, List, ◌++◌, length, Ok}
use Rattle.std.specs.List.{AllByRecursion}
use Rattle.core_types.specs.Keys.{Keys, no_keys}
use Rattle.effect_log.specs.Log.{Unit, units_bytes, IsUnit}
use Rattle.effect_log.specs.Reading.{Log, ahead}
use Rattle.effect_log.specs.Replay.{Meaning, replayed, effects_of}

-- these units were taken of the bytes, and their effects made the keys
pub record Progress (replay : Meaning) (bytes : List ℕ) (log : Log) (keys : Keys) : Type 0 where
  pub units : List Unit
  pub each : AllByRecursion IsUnit units
  pub same : log.bytes ≡ bytes
  pub whole : bytes ≡ units_bytes units ++ ahead log
  pub place : log.place ≡ length (units_bytes units)
  pub makes : replayed replay no_keys (effects_of units) ≡ Ok keys
