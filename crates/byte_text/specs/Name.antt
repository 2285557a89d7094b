-- Names, in which the case of ASCII letters makes no difference.
use Rattle.std.specs.Prelude.{◌≡◌, ◌+◌, ◌≤◌, ◌⊎◌, ⊤, ℕ, Bool, List, [], ◌∷◌, map}
use Rattle.std.specs.Char.{to_ascii_uppercase}
use Rattle.std.specs.Str.{bytes_eq}

-- the name with each ASCII letter in upper case
abbrev pub upper_name : List ℕ → List ℕ
upper_name name = map to_ascii_uppercase name

abbrev pub same_name : List ℕ → List ℕ → Bool
same_name a b = bytes_eq (upper_name a) (upper_name b)

-- a letter from `A` to `Z`, and its lower case
abbrev pub IsLowerOf : ℕ → ℕ → Type 0
IsLowerOf upper lower = (65 ≤ upper) × (upper ≤ 90) × (lower ≡ upper + 32)

-- one byte, or both cases of one letter
abbrev pub DiffersInCase : ℕ → ℕ → Type 0
DiffersInCase a b = (a ≡ b) ⊎ (IsLowerOf a b ⊎ IsLowerOf b a)

-- as many bytes, each the other's but for its case
abbrev pub DifferInCase : List ℕ → List ℕ → Type 0
DifferInCase [] [] = ⊤
DifferInCase [] (y ∷ ys) = ⊥
DifferInCase (x ∷ xs) [] = ⊥
DifferInCase (x ∷ xs) (y ∷ ys) = DiffersInCase x y × DifferInCase xs ys
