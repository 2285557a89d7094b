-- Numbers of several bytes.
use Rattle.std.specs.Prelude.{ℕ, ◌+◌, ◌-◌, ◌*◌, ◌^◌, ◌<◌, List, [], ◌∷◌, length, reverse, ℤ, pos}
use Rattle.std.specs.Prelude.{negsuc, if◌then◌else◌, nat_lt}
use Rattle.std.specs.List.{AllByRecursion}

abbrev pub IsByte : ℕ → Type 0
IsByte n = n < 256

abbrev pub AreBytes : List ℕ → Type 0
AreBytes bytes = AllByRecursion IsByte bytes

-- the lowest byte first
abbrev pub little : List ℕ → ℕ
little [] = 0
little (byte ∷ more) = byte + 256 * little more

-- the highest byte first
abbrev pub big : List ℕ → ℕ
big bytes = little (reverse bytes)

-- the lowest byte first, in two's complement: the upper half of what such bytes write stands for
-- the numbers below zero
abbrev pub signed : List ℕ → ℤ
signed bytes =
    let n = little bytes in
    let count = 256 ^ length bytes in
    if nat_lt (2 * n) count then pos n else negsuc (count - 1 - n)
