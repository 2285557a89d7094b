-- How RDB version 9 spells a length: in one, two, five or nine bytes.
use Rattle.std.specs.Prelude.{◌≡◌, ◌+◌, ◌/◌, ◌%◌, ◌^◌, ◌<◌, if◌then◌else◌, nat_lt, ℕ, List, [], ◌∷◌}
use Rattle.std.specs.Int.{w32, w64, to_be_bytes}

-- the four forms, by how many bits they hold
pub data Form : Type 0 where
  Six : Form
  Fourteen : Form
  ThirtyTwo : Form
  SixtyFour : Form

-- the first length that a form does not hold
abbrev pub limit : Form → ℕ
limit Six = 2 ^ 6
limit Fourteen = 2 ^ 14
limit ThirtyTwo = 2 ^ 32
limit SixtyFour = 2 ^ 64

-- the marks in front of 32 and of 64 bits
abbrev pub length_mark_32 : ℕ
length_mark_32 = 0x80

abbrev pub length_mark_64 : ℕ
length_mark_64 = 0x81

-- A length in a form, the high bits first: itself; its high six bits above 0x40, and its low eight;
-- a mark, and its four or eight bytes.
abbrev pub spelling : Form → ℕ → List ℕ
spelling Six n = n ∷ []
spelling Fourteen n = (0x40 + n / 256) ∷ n % 256 ∷ []
spelling ThirtyTwo n = length_mark_32 ∷ to_be_bytes w32 n
spelling SixtyFour n = length_mark_64 ∷ to_be_bytes w64 n

-- The bytes are the length n, all of them, in any form that holds it.
pub record SpellsLength (bytes : List ℕ) (n : ℕ) : Type 0 where
  pub form : Form
  pub held : n < limit form
  pub whole : bytes ≡ spelling form n

-- the shortest form that holds a length
abbrev pub shortest : ℕ → Form
shortest n =
    if nat_lt n (2 ^ 6) then Six
    else if nat_lt n (2 ^ 14) then Fourteen
    else if nat_lt n (2 ^ 32) then ThirtyTwo
    else SixtyFour

-- a length as it is written
abbrev pub length_text : ℕ → List ℕ
length_text n = spelling (shortest n) n
