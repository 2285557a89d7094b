-- What a log makes of the keys, whatever replaying an effect means.
use Rattle.std.specs.Prelude.{◌≡◌, ◌⊎◌, ◌+◌, ℕ, List, [], ◌∷◌, ◌++◌, length, take, slice_get, Some, Result, Ok, Err}
use Rattle.std.specs.List.{AllByRecursion, flat_map}
use Rattle.core_types.specs.Keys.{Keys, no_keys}
use Rattle.core_types.specs.declared.effect.Effect.{Effect}
use Rattle.effect_log.specs.declared.reason.Reason.{Reason}
use Rattle.effect_log.specs.Refusal.{Refusal, reason_of}
use Rattle.effect_log.specs.Log.{Unit, unit_bytes, units_bytes, effect_start, IsUnit, HoldsUnits, BreaksAt}

-- what replaying an effect makes of some keys, or why it makes nothing of them
abbrev pub Meaning : Type 0
Meaning = Keys → Effect → Result Keys Refusal

-- an effect makes nothing of some keys, for this reason
pub record Refuses (replay : Meaning) (keys : Keys) (effect : Effect) (why : Reason) : Type 0 where
  pub refusal : Refusal
  pub nothing : replay keys effect ≡ Err refusal
  pub reason : why ≡ reason_of refusal

-- an effect after others
abbrev pub and_then : Result Keys Refusal → (Keys → Result Keys Refusal) → Result Keys Refusal
and_then (Ok keys) next = next keys
and_then (Err why) next = Err why

-- effects in order, up to the first that makes nothing of the keys
abbrev pub replayed : Meaning → Keys → List Effect → Result Keys Refusal
replayed replay keys [] = Ok keys
replayed replay keys (effect ∷ more) =
    and_then (replay keys effect) (λ then. replayed replay then more)

-- the effects of units, in order
abbrev pub effects_of : List Unit → List Effect
effects_of units = flat_map (λ u. u.effects) units

-- A log's bytes stand for these keys: up to a place they are units whose effects make them, and
-- then there is nothing or a torn unit.
pub record Holds (replay : Meaning) (bytes : List ℕ) (keys : Keys) (kept : ℕ) : Type 0 where
  pub units : List Unit
  pub holds : HoldsUnits bytes units kept
  pub makes : replayed replay no_keys (effects_of units) ≡ Ok keys

-- Behind effects that make some keys, one of a whole unit makes nothing of them.
pub record RefusesEffect (replay : Meaning) (bytes : List ℕ) (why : Reason) (at : ℕ) : Type 0 where
  pub units : List Unit
  pub next : Unit
  pub rest : List ℕ
  pub count : ℕ
  pub effect : Effect
  pub keys : Keys
  pub each : AllByRecursion IsUnit units
  pub is_unit : IsUnit next
  pub whole : bytes ≡ units_bytes units ++ unit_bytes next ++ rest
  pub there : slice_get next.effects count ≡ Some effect
  pub before : replayed replay no_keys (effects_of units ++ take count next.effects) ≡ Ok keys
  pub refused : Refuses replay keys effect why
  pub place : at ≡ length (units_bytes units) + effect_start next count

-- Behind units whose effects make some keys, the bytes have a fault of form.
pub record RefusesForm (replay : Meaning) (bytes : List ℕ) (why : Reason) (at : ℕ) : Type 0 where
  pub units : List Unit
  pub keys : Keys
  pub breaks : BreaksAt bytes units why at
  pub before : replayed replay no_keys (effects_of units) ≡ Ok keys

-- The first fault of a log: why it is refused, and where.
abbrev pub IsRefused : Meaning → List ℕ → Reason → ℕ → Type 0
IsRefused replay bytes why at = RefusesEffect replay bytes why at ⊎ RefusesForm replay bytes why at
