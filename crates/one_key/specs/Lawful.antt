-- The laws of a type whose commands each work on one key.
use Rattle.std.specs.Prelude.{◌≡◌, ⊤, ℕ, pos, negsuc, ℤ, ◌≤◌, ◌&&◌, ◌==◌, nat_le, Bool, true, false, List, ◌∷◌, length, map, Option, Some, None, IfOk}
use Rattle.std.specs.Char.{to_ascii_uppercase}
use Rattle.std.specs.List.{AllByRecursion, list_all}
use Rattle.std.specs.Option.{option_map}
use Rattle.std.specs.Str.{bytes_eq}
use Rattle.core_types.specs.CommandRow.{CommandRow, MeetArity}
use Rattle.core_types.specs.Limits.{IsWithinLimits}
use Rattle.type_ids.specs.Name.{IsTypeName}
use Rattle.module_laws.specs.Laws.{IsFullOrNone, IsWritten}
use Rattle.module_laws.specs.Named.{are_distinct, has_dot, row_named}
use Rattle.module_laws.specs.Types.{is_short}
use Rattle.module_laws.specs.Words.{Bytes, Words, Saved}
use Rattle.one_key.specs.KeyMeaning.{KeyChange, KeyMeaning}
use Rattle.one_key.specs.MeaningOf.{meaning_of}

-- at least two words are taken
abbrev pub is_long : ℤ → Bool
is_long (pos n) = nat_le 2 n
is_long (negsuc n) = nat_le 1 n

-- a command on the key behind its name, which is in upper case and has a dot
abbrev pub is_key_row : CommandRow → Bool
is_key_row row =
    bytes_eq (map to_ascii_uppercase row.name) row.name && has_dot row.name && row.key == 1
    && is_long row.arity

-- at most 200 such commands, no two of one name
abbrev pub are_key_rows : List CommandRow → Bool
are_key_rows rows =
    list_all is_key_row rows && are_distinct (map (λ row. row.name) rows)
    && nat_le (length rows) 200

-- These words are those of a command that writes, on the same key, and make of the same value the
-- same again.
pub record IsRemade (m : KeyMeaning) (old : Option Saved) (key : Bytes) (left : Option Saved)
    (effect : Words) : Type 0 where
  pub row : CommandRow
  pub more : Words
  pub is : effect ≡ row.name ∷ key ∷ more
  pub listed : row_named row.name m.rows ≡ Some row
  pub writes : row.writes ≡ true
  pub arity : MeetArity row effect
  pub limits : IsWithinLimits effect
  pub again : option_map (λ change. change.left) (m.writes old effect).change ≡ Some left

-- a command's own words make its change again
abbrev pub IsRemadeBy : KeyMeaning → Option Saved → Bytes → Option Saved → Option Words → Type 0
IsRemadeBy m old key left None = ⊤
IsRemadeBy m old key left (Some effect) = IsRemade m old key left effect

-- The key is left with a value that it may have, or none, where it had such a one before; and the
-- effect leaves it so too.
pub record IsLawfulChange (m : KeyMeaning) (old : Option Saved) (key : Bytes) (change : KeyChange)
    : Type 0 where
  pub full : IsFullOrNone (meaning_of m) old → IsFullOrNone (meaning_of m) change.left
  pub remade : IsRemadeBy m old key change.left change.effect

abbrev pub IsLawfulWhere : KeyMeaning → Option Saved → Bytes → Option KeyChange → Type 0
IsLawfulWhere m old key None = ⊤
IsLawfulWhere m old key (Some change) = IsLawfulChange m old key change

-- A command that writes: what it changes is lawful, and there are words of which it makes something.
pub record IsWriter (m : KeyMeaning) (row : CommandRow) : Type 0 where
  pub changes : (old : Option Saved) (key : Bytes) (more : Words)
      → MeetArity row (row.name ∷ key ∷ more) → IsWithinLimits (row.name ∷ key ∷ more)
      → IsLawfulWhere m old key (m.writes old (row.name ∷ key ∷ more)).change
  pub used : IsWritten (meaning_of m) row

abbrev pub IsWriterWhere : Bool → KeyMeaning → CommandRow → Type 0
IsWriterWhere true m row = IsWriter m row
IsWriterWhere false m row = ⊤

pub record IsKeyLawful (m : KeyMeaning) : Type 0 where
  pub named : IsTypeName m.name
  pub versioned : m.version ≤ 1023
  pub rows : are_key_rows m.rows ≡ true
  pub writers : AllByRecursion (λ row. IsWriterWhere row.writes m row) m.rows
  -- no byte string is loaded that is longer than a string may be
  pub loads : (items : Saved) (version : ℕ) → list_all is_short items ≡ true
      → IfOk (m.loads items version) (λ value. list_all is_short value ≡ true)
