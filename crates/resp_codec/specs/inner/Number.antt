-- The numbers that headers give.
use Rattle.std.specs.Prelude.{◌≡◌, ℕ, zero, suc, ℤ, pos, ◌≤◌, ◌≤ℤ◌, List, FitsSigned}
use Rattle.std.specs.Int.{w64}
use Rattle.std.specs.Fmt.{decimal, signed_decimal}

-- a number below 1
pub record IsNoneOrFewer (text : List ℕ) : Type 0 where
  pub count : ℤ
  pub none : count ≤ℤ pos 0
  pub fits : FitsSigned w64 count
  pub text_is : text ≡ signed_decimal count

-- a number of words, where 0 stands for each number below 1
abbrev pub IsCount : List ℕ → ℕ → Type 0
IsCount text zero = IsNoneOrFewer text
IsCount text (suc n) = (suc n ≤ 1048576) × (text ≡ decimal (suc n))

-- a number of bytes of a word
abbrev pub IsLength : List ℕ → ℕ → Type 0
IsLength text n = (n ≤ 536870912) × (text ≡ decimal n)
