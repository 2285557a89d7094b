-- The words of a request that are a frame.
use Rattle.std.specs.Prelude.{◌≡◌, ◌<◌, ◌≤◌, ◌^◌, ℕ, List, [], ◌∷◌, length}
use Rattle.std.specs.Fmt.{decimal}
use Rattle.core_types.specs.declared.effect.Effect.{Effect}
use Rattle.effect_log.specs.Log.{Unit, HoldsUnits}
use Rattle.effect_log.specs.Replay.{effects_of}
use Rattle.replica_feed.specs.declared.frame.Frame.{Frame}
use Rattle.replica_feed.specs.declared.frame.Frame.TheVariants as frame
use Rattle.replica_feed.specs.Frames.{full_word, unit_word}

-- All of a text is one whole unit of these effects, or nothing, and there are none.
pub record IsUnitText (text : List ℕ) (effects : List Effect) : Type 0 where
  pub units : List Unit
  pub holds : HoldsUnits text units (length text)
  pub few : length units ≤ 1
  pub effects_are : effects ≡ effects_of units

-- `FULL`, a run, a number and a file
pub record AreFull (words : List (List ℕ)) (run number : ℕ) (file : List ℕ) : Type 0 where
  pub words_are : words ≡ full_word ∷ decimal run ∷ decimal number ∷ file ∷ []
  pub run_fits : run < 2 ^ 64
  pub number_fits : number < 2 ^ 64

-- `UNIT`, a run, a number, a later one, and the text of these effects
pub record AreUnit (words : List (List ℕ)) (run from to : ℕ) (effects : List Effect)
    : Type 0 where
  pub text : List ℕ
  pub words_are : words ≡ unit_word ∷ decimal run ∷ decimal from ∷ decimal to ∷ text ∷ []
  pub run_fits : run < 2 ^ 64
  pub forward : from < to
  pub to_fits : to < 2 ^ 64
  pub is_text : IsUnitText text effects

-- The words are this frame.
abbrev pub AreFrame : List (List ℕ) → Frame → Type 0
AreFrame words (frame.Full run number file) = AreFull words run number file
AreFrame words (frame.Unit run from to effects) = AreUnit words run from to effects

-- its numbers have 64 bits
abbrev pub HasNumbers : Frame → Type 0
HasNumbers (frame.Full run number file) = (run < 2 ^ 64) × (number < 2 ^ 64)
HasNumbers (frame.Unit run from to effects) = (run < 2 ^ 64) × (to < 2 ^ 64)
