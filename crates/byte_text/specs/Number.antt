-- The numbers whose canonical decimals are given, and how decimals look.
use Rattle.std.specs.Prelude.{◌≡◌, ◌^◌, ◌<◌, ◌≤◌, ◌&&◌, ◌⊎◌, if◌then◌else◌, nat_lt, ℕ, ℤ, pos, negsuc, Bool, List, length, drop, slice_index, Option, Some, None, unwrap_or}
use Rattle.std.specs.List.{AllByRecursion}
use Rattle.std.specs.Fmt.{decimal, signed_decimal}
use Rattle.std.specs.Str.{bytes_eq}
use Rattle.std.specs.Str.Parse.{digits_value, signed_digits_value}

-- the u64 whose decimal the text is: the number that its digits write, where that number is written
-- so
unfoldable pub u64_of : List ℕ → Option ℕ
u64_of text =
    let n = digits_value 10 text in
    if nat_lt n (2 ^ 64) && bytes_eq text (decimal n) then Some n else None

-- a number of 64 bits with a sign
abbrev pub fits_i64 : ℤ → Bool
fits_i64 (pos n) = nat_lt n (2 ^ 63)
fits_i64 (negsuc n) = nat_lt n (2 ^ 63)

-- the i64 whose decimal the text is: the number that its sign and digits write, where it is written
-- so
unfoldable pub i64_of : List ℕ → Option ℤ
i64_of text =
    let n = signed_digits_value 10 text in
    if fits_i64 n && bytes_eq text (signed_decimal n) then Some n else None

-- the same, or 0 where the text is that of none
unfoldable pub number_in : List ℕ → ℤ
number_in text = unwrap_or (i64_of text) (pos 0)

-- the number that a text holds which may be missing, 0 where it is
abbrev pub number_held : Option (List ℕ) → Option ℤ
number_held None = Some (pos 0)
number_held (Some text) = i64_of text

-- from one to twenty bytes
pub record IsShort (text : List ℕ) : Type 0 where
  pub some : 0 < length text
  pub few : length text ≤ 20

-- a byte from `0` to `9`
abbrev pub IsDigit : ℕ → Type 0
IsDigit byte = (48 ≤ byte) × (byte ≤ 57)

abbrev pub AreDigits : List ℕ → Type 0
AreDigits text = AllByRecursion IsDigit text

-- digits, before which a `-` may stand
abbrev pub AreSignedDigits : List ℕ → Type 0
AreSignedDigits text =
    (IsDigit (slice_index text 0) ⊎ (slice_index text 0 ≡ 45)) × AreDigits (drop 1 text)
