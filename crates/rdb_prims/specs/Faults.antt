-- Why no length, or no string, stands at a place, and which byte is the first that is wrong or
-- missing.
use Rattle.std.specs.Prelude.{◌≡◌, ◌<◌, ◌≤◌, ◌⊎◌, ℕ, List, [], ◌∷◌, ◌++◌, length, drop}
use Rattle.core_types.specs.declared.load_fault.RdbCause.{RdbCause}
use Rattle.core_types.specs.declared.load_fault.RdbCause.TheVariants as causes
use Rattle.rdb_prims.specs.declared.rdb_fault.RdbFault.{RdbFault}
use Rattle.rdb_prims.specs.Length.{SpellsLength}
use Rattle.rdb_prims.specs.Text.{IsPlain, IsString, longest, integer_mark_8, compressed_mark}

-- more bytes behind these would make a length
pub record IsCutLength (bytes : List ℕ) : Type 0 where
  pub more : List ℕ
  pub missing : 0 < length more
  pub n : ℕ
  pub spells : SpellsLength (bytes ++ more) n

-- more bytes behind these would make a string, of any length
pub record IsCutString (bytes : List ℕ) : Type 0 where
  pub more : List ℕ
  pub missing : 0 < length more
  pub text : List ℕ
  pub whole : IsString (bytes ++ more) text

-- a first byte with which no length begins
abbrev pub BeginsNoLength : List ℕ → Type 0
BeginsNoLength [] = ⊥
BeginsNoLength (first ∷ more) = 0x82 ≤ first

-- a first byte with which no string begins, and no compressed one
abbrev pub BeginsNoString : List ℕ → Type 0
BeginsNoString [] = ⊥
BeginsNoString (first ∷ more) =
    ((0x82 ≤ first) × (first < integer_mark_8)) ⊎ (compressed_mark < first)

-- a first byte with which a compressed string begins
abbrev pub BeginsCompressed : List ℕ → Type 0
BeginsCompressed [] = ⊥
BeginsCompressed (first ∷ more) = first ≡ compressed_mark

-- a whole string that is too long
pub record BeginsTooLong (bytes : List ℕ) : Type 0 where
  pub piece : List ℕ
  pub more : List ℕ
  pub text : List ℕ
  pub whole : bytes ≡ piece ++ more
  pub plain : IsPlain piece text
  pub long : longest < length text

-- no length stands at the place, for this cause
abbrev pub LacksLength : List ℕ → ℕ → RdbCause → ℕ → Type 0
LacksLength bytes at causes.Truncated offset = IsCutLength (drop at bytes) × (offset ≡ length bytes)
LacksLength bytes at causes.BadLength offset = BeginsNoLength (drop at bytes) × (offset ≡ at)
LacksLength bytes at _ offset = ⊥

-- No length stands at the place: this is the first fault.
abbrev pub LengthFault : List ℕ → ℕ → RdbFault → Type 0
LengthFault bytes at fault = LacksLength bytes at fault.cause fault.offset

-- no string stands at the place, for this cause
abbrev pub LacksString : List ℕ → ℕ → RdbCause → ℕ → Type 0
LacksString bytes at causes.Truncated offset = IsCutString (drop at bytes) × (offset ≡ length bytes)
LacksString bytes at causes.BadLength offset =
    (BeginsNoString (drop at bytes) ⊎ BeginsTooLong (drop at bytes)) × (offset ≡ at)
LacksString bytes at causes.Compressed offset = BeginsCompressed (drop at bytes) × (offset ≡ at)
LacksString bytes at _ offset = ⊥

-- No string stands at the place: this is the first fault.
abbrev pub StringFault : List ℕ → ℕ → RdbFault → Type 0
StringFault bytes at fault = LacksString bytes at fault.cause fault.offset
