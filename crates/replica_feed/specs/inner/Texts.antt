-- What the text of a Unit is.
use Rattle.std.specs.Prelude.{◌≡◌, ◌<◌, ◌++◌, ℕ, List, length, Bool, true, false, nat_lt, if◌then◌else◌}
use Rattle.std.specs.List.{AllByRecursion}
use Rattle.core_types.specs.declared.effect.Effect.{Effect}
use Rattle.effect_log.specs.Log.{Unit, BreaksAt, IsUnit, units_bytes}
use Rattle.effect_log.specs.Reading.{Log, ahead}
use Rattle.effect_log.specs.Replay.{effects_of}
use Rattle.effect_log.specs.declared.reason.Reason.{Reason}
use Rattle.replica_feed.specs.declared.fault.FrameFault.TheVariants as fault
use Rattle.replica_feed.specs.declared.frame.Frame.TheVariants as frame
use Rattle.replica_feed.specs.declared.words.Judged.{Judged}
use Rattle.replica_feed.specs.declared.words.Judged.TheVariants as judged
use Rattle.replica_feed.specs.Words.{IsUnitText}
use Rattle.replica_feed.specs.declared.words.Text.{Text}
use Rattle.replica_feed.specs.declared.words.Text.TheVariants as is

-- behind whole units the text has a fault of form
pub record Breaks (text : List ℕ) (why : Reason) : Type 0 where
  pub units : List Unit
  pub at : ℕ
  pub breaks : BreaksAt text units why at

-- neither a unit, or nothing, nor a fault of form
pub record IsOther (text : List ℕ) : Type 0 where
  pub no_unit : (effects : List Effect) → ¬ IsUnitText text effects
  pub no_fault : (why : Reason) → ¬ Breaks text why

-- what a text was found to be is so
abbrev pub IsText : List ℕ → Text → Type 0
IsText text (is.Unit effects) = IsUnitText text effects
IsText text is.Other = IsOther text
IsText text (is.Bad why) = Breaks text why

-- Whole units were read, at least one. Where it is alone, these are its effects.
pub record IsRead (log : Log) (effects : List Effect) (alone : Bool) : Type 0 where
  pub units : List Unit
  pub each : AllByRecursion IsUnit units
  pub whole : log.bytes ≡ units_bytes units ++ ahead log
  pub place : log.place ≡ length (units_bytes units)
  pub one : alone ≡ true → (length units ≡ 1) × (effects ≡ effects_of units)
  pub more : alone ≡ false → 1 < length units

-- what a Unit with this text is
abbrev pub unit_of : ℕ → ℕ → ℕ → Text → Judged
unit_of run from to (is.Unit effects) =
    if nat_lt from to then judged.Frame (frame.Unit run from to effects) else judged.Bad fault.Shape
unit_of run from to is.Other = judged.Bad fault.Shape
unit_of run from to (is.Bad why) = judged.Bad (fault.Text why)
