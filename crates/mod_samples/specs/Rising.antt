-- Lists of numbers in rising order.
use Rattle.std.specs.Prelude.{◌≡◌, ◌≤◌, ◌&&◌, ℕ, ℤ, Bool, true, false, length, int_le, int_lt, List, [], ◌∷◌, Option, Some, None, if◌then◌else◌}
use Rattle.std.specs.List.{AllWithin}
use Rattle.byte_text.specs.Number.{fits_i64}

-- a number is not below the one before it, where there is one
abbrev pub not_below : Option ℤ → ℤ → Bool
not_below None n = true
not_below (Some last) n = int_le last n

-- each number has 64 bits, and none is below the one before it
abbrev pub rises : Option ℤ → List ℤ → Bool
rises last [] = true
rises last (n ∷ ns) = not_below last n && (fits_i64 n && rises (Some n) ns)

abbrev pub is_rising : List ℤ → Bool
is_rising ns = rises None ns

-- a list with one number more, at its place: before the first that is not below it
abbrev pub inserted : ℤ → List ℤ → List ℤ
inserted n [] = n ∷ []
inserted n (m ∷ ms) = if int_lt m n then m ∷ inserted n ms else n ∷ m ∷ ms

-- at this place the numbers that are below another end
pub record IsPlaceOf (n : ℤ) (ns : List ℤ) (place : ℕ) : Type 0 where
  pub within : place ≤ length ns
  pub before : AllWithin (λ m. int_lt m n ≡ true) ns 0 place
  pub behind : AllWithin (λ m. int_lt m n ≡ false) ns place (length ns)
