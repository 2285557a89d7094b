-- The 64 letters of type names, and their numbers.
use Rattle.std.specs.Prelude.{ℕ, ◌+◌, ◌-◌, ◌<◌, ◌==◌, ◌&&◌, Bool, nat_le, nat_lt, if◌then◌else◌, List, codes}

-- the letters in the order of their numbers
abbrev pub letters : List ℕ
letters = codes "ABCDEFGHIJKLMNOPQRSTUVWXYZabcdefghijklmnopqrstuvwxyz0123456789-_"

abbrev pub between : ℕ → ℕ → ℕ → Bool
between low high byte = nat_le low byte && nat_le byte high

-- the number of a letter, and 64 for any other byte: `A` to `Z` are 65 to 90, `a` to `z` 97 to 122,
-- `0` to `9` 48 to 57, `-` is 45 and `_` is 95
abbrev pub letter_number : ℕ → ℕ
letter_number byte =
    if between 65 90 byte then byte - 65 else
    (if between 97 122 byte then byte - 97 + 26 else
    (if between 48 57 byte then byte - 48 + 52 else
    (if byte == 45 then 62 else
    (if byte == 95 then 63 else 64))))

-- the letter with a number below 64
abbrev pub letter_at : ℕ → ℕ
letter_at number =
    if nat_lt number 26 then 65 + number else
    (if nat_lt number 52 then 97 + (number - 26) else
    (if nat_lt number 62 then 48 + (number - 52) else
    (if number == 62 then 45 else 95)))

abbrev pub IsLetter : ℕ → Type 0
IsLetter byte = letter_number byte < 64
