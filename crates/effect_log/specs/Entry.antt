-- What stands where a request of a log is due.
use Rattle.std.specs.Prelude.{◌≡◌, ◌⊎◌, ◌<◌, ℕ, List, [], ◌++◌, length, drop, true, false}
use Rattle.core_types.specs.declared.effect.Effect.{Effect}
use Rattle.resp_codec.specs.Spelling.{multibulk, IsRequest}
use Rattle.resp_codec.specs.Array.{IsUnfinishedArray, IsBadArray}
use Rattle.effect_log.specs.Unit.{multi, exec, effect_text, is_named, IsLoggable}
use Rattle.effect_log.specs.Log.{IsNoArray}
use Rattle.effect_log.specs.declared.entry.Entry.{Entry}
use Rattle.effect_log.specs.declared.entry.Entry.TheVariants as entry
use Rattle.effect_log.specs.declared.reason.Reason.{Reason}
use Rattle.effect_log.specs.declared.reason.Reason.TheVariants as reason

-- what a request of these words is to its unit, and its size
abbrev pub IsEntryOf : List (List ℕ) → ℕ → Entry → Type 0
IsEntryOf words size (entry.Multi taken) = (taken ≡ size) × (is_named multi words ≡ true)
IsEntryOf words size (entry.Exec taken) = (taken ≡ size) × (is_named exec words ≡ true)
IsEntryOf words size (entry.Effect effect taken) = (taken ≡ size) × (effect.words ≡ words)
    × (is_named multi words ≡ false) × (is_named exec words ≡ false)
IsEntryOf words size entry.Unfinished = ⊥
IsEntryOf words size (entry.Bad place why) = ⊥

-- a request of this name stands at the front, and takes this many bytes
pub record IsNamedFront (name bytes : List ℕ) (size : ℕ) : Type 0 where
  pub words : List (List ℕ)
  pub request : IsRequest words
  pub named : is_named name words ≡ true
  pub whole : bytes ≡ multibulk words ++ drop size bytes
  pub size_is : size ≡ length (multibulk words)

-- an effect stands at the front, and takes this many bytes
pub record IsEffectFront (bytes : List ℕ) (effect : Effect) (size : ℕ) : Type 0 where
  pub loggable : IsLoggable effect
  pub whole : bytes ≡ effect_text effect ++ drop size bytes
  pub size_is : size ≡ length (effect_text effect)

-- no request stands at the front: why, and the place of what is wrong
abbrev pub IsBadFront : List ℕ → Reason → ℕ → Type 0
IsBadFront bytes (reason.Request kind) place = IsBadArray bytes kind place × (place < length bytes)
IsBadFront bytes reason.NotMultibulk place = IsNoArray bytes × (place ≡ 0) × (0 < length bytes)
IsBadFront bytes reason.NotAnEffect place = ⊥
IsBadFront bytes reason.EffectRefused place = ⊥
IsBadFront bytes reason.NestedMulti place = ⊥
IsBadFront bytes reason.LoneExec place = ⊥
IsBadFront bytes (reason.Rdb cause) place = ⊥

-- what was found at the front of the bytes is so
abbrev pub IsEntry : List ℕ → Entry → Type 0
IsEntry bytes (entry.Multi size) = IsNamedFront multi bytes size
IsEntry bytes (entry.Exec size) = IsNamedFront exec bytes size
IsEntry bytes (entry.Effect effect size) = IsEffectFront bytes effect size
IsEntry bytes entry.Unfinished = (bytes ≡ []) ⊎ IsUnfinishedArray bytes
IsEntry bytes (entry.Bad place why) = IsBadFront bytes why place
