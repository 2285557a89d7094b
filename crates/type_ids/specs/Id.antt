-- The ids of type names.
use Rattle.std.specs.Prelude.{ℕ, ◌≡◌, ◌+◌, ◌*◌, ◌≤◌, List, map}
use Rattle.std.specs.Int.Digits.{number_from_digits}
use Rattle.type_ids.specs.Letter.{letter_number}
use Rattle.type_ids.specs.Name.{IsTypeName}

-- the number that letters write in base 64, the first letter highest
abbrev pub letters_value : List ℕ → ℕ
letters_value text = number_from_digits 64 (map letter_number text)

-- six bits a letter, and ten for the version
abbrev pub id_number : List ℕ → ℕ → ℕ
id_number name version = letters_value name * 1024 + version

-- a type name and a version, and the number that packs them
pub record IsIdOf (name : List ℕ) (version id : ℕ) : Type 0 where
  pub named : IsTypeName name
  pub version_fits : version ≤ 1023
  pub number : id ≡ id_number name version
