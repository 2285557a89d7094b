-- Values of two halves.
use Rattle.std.specs.Prelude.{⊤, ℕ, ◌+◌, Option, Some, Result, Ok, Err}
use Rattle.std.specs.Option.{option_map}
use Rattle.core_types.specs.Keys.{Native}
use Rattle.module_laws.specs.declared.either.Either.{Either}
use Rattle.module_laws.specs.declared.either.Either.TheVariants as either
use Rattle.module_laws.specs.declared.verdict.ApplyStop.{ApplyStop}
use Rattle.module_laws.specs.declared.verdict.ApplyStop.TheVariants as stops

module _ {L R : Type 0} where
  -- a value shows what its half shows
  abbrev pub native_of : (L → Native) → (R → Native) → Either L R → Native
  native_of left right (either.Left value) = left value
  native_of left right (either.Right value) = right value

  -- the place of a value's module, where this many modules are of the first half
  abbrev pub place_of_half : ℕ → (L → ℕ) → (R → ℕ) → Either L R → ℕ
  place_of_half first left right (either.Left value) = left value
  place_of_half first left right (either.Right value) = first + right value

  -- no value, or one of the first half
  abbrev pub IsLeftOrNone : Option (Either L R) → Type 0
  IsLeftOrNone (Some (either.Right value)) = ⊥
  IsLeftOrNone _ = ⊤

  -- no value, or one of the second half
  abbrev pub IsRightOrNone : Option (Either L R) → Type 0
  IsRightOrNone (Some (either.Left value)) = ⊥
  IsRightOrNone _ = ⊤

  -- what a half answered when it applied an effect, as the answer of the whole
  abbrev pub left_answer : Result (Option L) (ApplyStop L)
      → Result (Option (Either L R)) (ApplyStop (Either L R))
  left_answer (Ok made) = Ok (option_map either.Left made)
  left_answer (Err (stops.Bad back)) = Err (stops.Bad (option_map either.Left back))
  left_answer (Err (stops.Stopped why back)) = Err (stops.Stopped why (option_map either.Left back))

  abbrev pub right_answer : Result (Option R) (ApplyStop R)
      → Result (Option (Either L R)) (ApplyStop (Either L R))
  right_answer (Ok made) = Ok (option_map either.Right made)
  right_answer (Err (stops.Bad back)) = Err (stops.Bad (option_map either.Right back))
  right_answer (Err (stops.Stopped why back)) =
      Err (stops.Stopped why (option_map either.Right back))
