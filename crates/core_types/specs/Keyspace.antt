-- What the keys may be: no empty list or hash, no string above the limit, and deadlines that a file
-- can store.
use Rattle.std.specs.Prelude.{◌≡◌, ◌<◌, ◌≤◌, ◌^◌, ⊤, ℕ, Bool, IsTrue, List, length, Option, Some, None}
use Rattle.std.specs.List.{AllByRecursion}
use Rattle.core_types.specs.declared.field.Field.{Field}
use Rattle.core_types.specs.declared.value.Value.{Value}
use Rattle.core_types.specs.declared.value.Value.TheVariants as value
use Rattle.core_types.specs.Fields.{AreDistinct}
use Rattle.core_types.specs.Keys.{Entry, KeysOf, entry_at}

-- the bytes of the longest key, string, item, field name or field value
abbrev pub longest : ℕ
longest = 536870912

abbrev pub IsString : List ℕ → Type 0
IsString bytes = length bytes ≤ longest

abbrev pub IsFieldOfStrings : Field → Type 0
IsFieldOfStrings field = IsString field.name × IsString field.value

abbrev pub IsDeadline : Option ℕ → Type 0
IsDeadline None = ⊤
IsDeadline (Some deadline) = (1 ≤ deadline) × (deadline < 2 ^ 63)

module _ {N : Type 0} (allowed : N → Bool) where
  -- a value that a key may have, where the test says which of a module's it may have
  abbrev pub IsValue : Value N → Type 0
  IsValue (value.Str text) = IsString text
  IsValue (value.List items) = (0 < length items) × AllByRecursion IsString items
  IsValue (value.Hash fields) =
      (0 < length fields) × AllByRecursion IsFieldOfStrings fields × AreDistinct fields
  IsValue (value.Native native) = IsTrue (allowed native)

  abbrev pub IsEntry : Entry N → Type 0
  IsEntry entry = IsValue entry.value × IsDeadline entry.deadline

  abbrev pub IsKeyspace : KeysOf N → Type 0
  IsKeyspace keys =
      (key : List ℕ) (entry : Entry N) → entry_at keys key ≡ Some entry → IsString key × IsEntry entry
