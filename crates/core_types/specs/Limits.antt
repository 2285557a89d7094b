-- What words a request may have, and so an effect.
use Rattle.std.specs.Prelude.{ℕ, ◌<◌, ◌≤◌, List, length}
use Rattle.std.specs.List.{AllByRecursion}
use Rattle.core_types.specs.Keyspace.{IsString}
use Rattle.core_types.specs.declared.effect.Effect.{Effect}

-- words that a request may have: at least one and at most 1,048,576, none longer than a string may
-- be
pub record IsWithinLimits (words : List (List ℕ)) : Type 0 where
  pub some : 0 < length words
  pub few : length words ≤ 1048576
  pub each : AllByRecursion IsString words

abbrev pub IsSmallEffect : Effect → Type 0
IsSmallEffect effect = IsWithinLimits effect.words
