-- The names of module data types, and why a text is none.
use Rattle.std.specs.Prelude.{ℕ, ◌≡◌, ◌≢◌, ◌<◌, List, length, slice_index, codes}
use Rattle.type_ids.specs.Letter.{IsLetter}
use Rattle.type_ids.specs.declared.name_fault.NameFault.{NameFault}
use Rattle.type_ids.specs.declared.name_fault.NameFault.TheVariants.{BadLength, BadLetter, Reserved}

abbrev pub reserved_name : List ℕ
reserved_name = codes "AAAAAAAAA"

-- nine letters that are not the reserved name
pub record IsTypeName (text : List ℕ) : Type 0 where
  pub nine : length text ≡ 9
  pub letters : (k : ℕ) → k < 9 → IsLetter (slice_index text k)
  pub free : text ≢ reserved_name

-- nine bytes, of which this one is the first that is no letter
pub record HasBadLetterAt (text : List ℕ) (place : ℕ) : Type 0 where
  pub nine : length text ≡ 9
  pub within : place < 9
  pub before : (k : ℕ) → k < place → IsLetter (slice_index text k)
  pub bad : ¬ IsLetter (slice_index text place)

-- the reason for which a text is no type name
abbrev pub HasFault : List ℕ → NameFault → Type 0
HasFault text BadLength = length text ≢ 9
HasFault text (BadLetter place) = HasBadLetterAt text place
HasFault text Reserved = text ≡ reserved_name
