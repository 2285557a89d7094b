-- Taking the parts of a saved value in order.
use Rattle.std.specs.Prelude.{◌≡◌, ℕ, ℤ, List, [], ◌∷◌, ◌++◌, drop, Result, Ok, Err}
use Rattle.std.specs.Borrow.{Bor}
use Rattle.std.specs.Int.{cast_signed, w64}
use Rattle.std.specs.Result.{result_map_both}
use Rattle.core_types.specs.declared.tagged.Tagged.{Tagged}
use Rattle.core_types.specs.declared.tagged.Tagged.TheVariants as tagged
use Rattle.tagged_io.specs.Putting.{Put}
use Rattle.tagged_io.specs.declared.take_fault.TaggedKind.TheVariants as kind
use Rattle.tagged_io.specs.declared.take_fault.TakeFault.{TakeFault}
use Rattle.tagged_io.specs.declared.take_fault.TakeFault.TheVariants as fault

-- the parts that were taken, and those that are left
pub record Taking : Type 0 where
  pub taken : List Tagged
  pub left : List Tagged

-- the number that stands first, or why there is none
abbrev pub first_number : List Tagged → Result ℕ TakeFault
first_number [] = Err fault.End
first_number (tagged.Number n ∷ left) = Ok n
first_number (tagged.Bytes bytes ∷ left) = Err (fault.WrongKind kind.Bytes)

-- the same, read as a number that has a sign
abbrev pub first_signed : List Tagged → Result ℤ TakeFault
first_signed left = result_map_both (cast_signed w64) (λ why. why) (first_number left)

-- the byte string that stands first, or why there is none
abbrev pub first_bytes : List Tagged → Result (List ℕ) TakeFault
first_bytes [] = Err fault.End
first_bytes (tagged.Number n ∷ left) = Err (fault.WrongKind kind.Number)
first_bytes (tagged.Bytes bytes ∷ left) = Ok bytes

-- an answer shows the byte string that stands first, or says why there is none
abbrev pub Gives : Result (Bor (List ℕ)) TakeFault → List Tagged → Type 0
Gives (Ok lent) left = first_bytes left ≡ Ok lent.now
Gives (Err why) left = first_bytes left ≡ Err why

abbrev pub taken_one : List Tagged → List Tagged → Taking
taken_one taken [] = record { taken = taken; left = [] }
taken_one taken (next ∷ left) = record { taken = taken ++ next ∷ []; left = left }

-- the part that stands first was taken
abbrev pub past_first : Taking → Taking
past_first taking = taken_one taking.taken taking.left

-- Calls of these kinds take these values from the parts, in order, and leave the rest.
abbrev pub TakesAll : List Put → List Tagged → List Tagged → Type 0
TakesAll [] parts rest = parts ≡ rest
TakesAll (Put.Unsigned n ∷ puts) parts rest = (first_number parts ≡ Ok n)
    × TakesAll puts (drop 1 parts) rest
TakesAll (Put.Signed n ∷ puts) parts rest = (first_signed parts ≡ Ok n)
    × TakesAll puts (drop 1 parts) rest
TakesAll (Put.Bytes bytes ∷ puts) parts rest = (first_bytes parts ≡ Ok bytes)
    × TakesAll puts (drop 1 parts) rest
