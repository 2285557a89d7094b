-- What reading a log takes from it.
use Rattle.std.specs.Prelude.{◌≡◌, ◌+◌, ◌<◌, ℕ, List, ◌++◌, length, drop, slice_get, Some}
use Rattle.core_types.specs.declared.effect.Effect.{Effect}
use Rattle.effect_log.specs.Log.{Unit, unit_bytes, effect_start, IsUnit, IsTorn, FaultAt}
use Rattle.effect_log.specs.declared.reason.Reason.{Reason}

-- a log that is read: all its bytes, the place of the next unit, and where the effects of the last
-- unit begin
pub record Log : Type 0 where
  pub bytes : List ℕ
  pub place : ℕ
  pub starts : List ℕ

-- what was not taken yet
abbrev pub ahead : Log → List ℕ
ahead log = drop log.place log.bytes

-- A unit of these effects was taken, each byte of it, and it is known where each effect begins.
pub record TakesUnit (old new : Log) (effects : List Effect) : Type 0 where
  pub unit : Unit
  pub is_unit : IsUnit unit
  pub effects_are : effects ≡ unit.effects
  pub bytes : new.bytes ≡ old.bytes
  pub taken : ahead old ≡ unit_bytes unit ++ ahead new
  pub place : new.place ≡ old.place + length (unit_bytes unit)
  pub count : length new.starts ≡ length effects
  pub starts : (n : ℕ) → n < length effects
      → slice_get new.starts n ≡ Some (old.place + effect_start unit n)

-- the log ends with a torn unit, at this offset
abbrev pub IsTail : Log → ℕ → Type 0
IsTail log offset = (offset ≡ log.place) × IsTorn (ahead log)

-- the log has a fault of form in the next unit, at this offset
pub record IsFaulty (log : Log) (offset : ℕ) (why : Reason) : Type 0 where
  pub place : ℕ
  pub fault : FaultAt (ahead log) why place
  pub offset_is : offset ≡ log.place + place
