-- The places that a range of a string or a list takes, by the rule of GETRANGE, LRANGE and LTRIM.
use Rattle.std.specs.Prelude.{ℕ, ◌+◌, ◌-◌, ℤ, pos, negsuc, min, List, length, slice_range}

-- the place at which a range starts: a number below 0 counts from the end, and the first place is 0
abbrev pub range_start : ℕ → ℤ → ℕ
range_start size (pos n) = n
range_start size (negsuc n) = size - (n + 1)

-- the place before which it ends: the one after the last that is meant, and after the end there is
-- none
abbrev pub range_end : ℕ → ℤ → ℕ
range_end size (pos n) = min (n + 1) size
range_end size (negsuc n) = size - n

-- what a range takes of a list
abbrev pub taken_range : {A : Type 0} → List A → ℤ → ℤ → List A
taken_range items first last =
    slice_range items (range_start (length items) first) (range_end (length items) last)
