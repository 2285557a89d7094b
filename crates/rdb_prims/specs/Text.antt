-- How RDB version 9 spells a string: its length and its bytes, or a small integer whose decimal
-- it is.
use Rattle.std.specs.Prelude.{◌≡◌, ◌<◌, ◌≤◌, ◌⊎◌, ℕ, ℤ, List, ◌∷◌, ◌++◌, length, FitsSigned}
use Rattle.std.specs.Int.{Width, w8, w16, w32, to_le_bytes, cast_unsigned}
use Rattle.std.specs.Fmt.{signed_decimal}
use Rattle.rdb_prims.specs.Length.{Form, limit, spelling, length_text}

-- the longest string that is read: 512 MiB
abbrev pub longest : ℕ
longest = 536870912

-- the marks in front of an integer of one, two and four bytes, and of a compressed string
abbrev pub integer_mark_8 : ℕ
integer_mark_8 = 0xC0

abbrev pub integer_mark_16 : ℕ
integer_mark_16 = 0xC1

abbrev pub integer_mark_32 : ℕ
integer_mark_32 = 0xC2

abbrev pub compressed_mark : ℕ
compressed_mark = 0xC3

-- the three widths of an integer
pub data Size : Type 0 where
  One : Size
  Two : Size
  Four : Size

abbrev pub width : Size → Width
width One = w8
width Two = w16
width Four = w32

abbrev pub mark : Size → ℕ
mark One = integer_mark_8
mark Two = integer_mark_16
mark Four = integer_mark_32

-- an integer in a width, the low byte first
abbrev pub integer_text : Size → ℤ → List ℕ
integer_text size z = mark size ∷ to_le_bytes (width size) (cast_unsigned (width size) z)

-- The bytes are a length, in any form, and as many bytes of a string.
pub record IsPlain (bytes text : List ℕ) : Type 0 where
  pub form : Form
  pub held : length text < limit form
  pub whole : bytes ≡ spelling form (length text) ++ text

-- The bytes are a small integer, and the string is its decimal.
pub record IsInteger (bytes text : List ℕ) : Type 0 where
  pub size : Size
  pub value : ℤ
  pub held : FitsSigned (width size) value
  pub whole : bytes ≡ integer_text size value
  pub decimal : text ≡ signed_decimal value

-- a string of any length, whole
abbrev pub IsString : List ℕ → List ℕ → Type 0
IsString bytes text = IsPlain bytes text ⊎ IsInteger bytes text

-- The bytes are this string, all of them, and it is not too long.
abbrev pub SpellsString : List ℕ → List ℕ → Type 0
SpellsString bytes text = IsString bytes text × (length text ≤ longest)

-- a string as it is written
abbrev pub string_text : List ℕ → List ℕ
string_text text = length_text (length text) ++ text
