-- The unit at the front of bytes.
use Rattle.std.specs.Prelude.{◌≡◌, ◌+◌, ◌<◌, ℕ, List, ◌++◌, length, drop, slice_get, Some}
use Rattle.core_types.specs.declared.effect.Effect.{Effect}
use Rattle.effect_log.specs.Log.{Unit, unit_bytes, effect_start, IsUnit, IsTorn, FaultAt}
use Rattle.effect_log.specs.Entry.{IsEffectFront}
use Rattle.effect_log.specs.declared.front.Front.{Front}
use Rattle.effect_log.specs.declared.front.Front.TheVariants as front

-- A unit of these effects stands at the front and takes this many bytes. The effects begin at these
-- places of the log, where the unit stands at an offset.
pub record IsUnitFront (bytes : List ℕ) (offset : ℕ) (effects : List Effect) (starts : List ℕ)
    (size : ℕ) : Type 0 where
  pub unit : Unit
  pub is_unit : IsUnit unit
  pub effects_are : effects ≡ unit.effects
  pub whole : bytes ≡ unit_bytes unit ++ drop size bytes
  pub size_is : size ≡ length (unit_bytes unit)
  pub count : length starts ≡ length effects
  pub starts_are : (n : ℕ) → n < length effects
      → slice_get starts n ≡ Some (offset + effect_start unit n)

-- what was found at the front of the bytes is so
abbrev pub IsFront : List ℕ → ℕ → Front → Type 0
IsFront bytes offset (front.Unit effects starts size) =
    IsUnitFront bytes offset effects starts.items size
IsFront bytes offset (front.Lone effect size) = IsEffectFront bytes effect size
IsFront bytes offset front.Torn = IsTorn bytes
IsFront bytes offset (front.Bad place why) = FaultAt bytes why place × (place < length bytes)
