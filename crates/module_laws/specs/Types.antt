-- The types of values that modules have, and which values a key may have.
use Rattle.std.specs.Prelude.{◌&&◌, ℕ, Bool, true, false, not, nat_le, List, [], ◌∷◌, length, if◌then◌else◌}
use Rattle.std.specs.List.{list_any, list_all}
use Rattle.std.specs.Str.{bytes_eq}
use Rattle.core_types.specs.Keys.{Native}
use Rattle.core_types.specs.Keyspace.{longest}
use Rattle.core_types.specs.declared.tagged.Tagged.{Tagged}
use Rattle.core_types.specs.declared.tagged.Tagged.TheVariants as tagged

-- a type of values: its name, and which saved values are empty, so that no key may have them
pub record NativeType : Type 0 where
  pub name : List ℕ
  pub is_empty : List Tagged → Bool

-- one of these types has this name
abbrev pub has_type : List NativeType → List ℕ → Bool
has_type types name = list_any (λ t. bytes_eq name t.name) types

abbrev pub is_short : Tagged → Bool
is_short (tagged.Number n) = true
is_short (tagged.Bytes bytes) = nat_le (length bytes) longest

-- a key may have this: it is not empty, and no byte string in it is longer than a string may be
abbrev pub is_full : NativeType → List Tagged → Bool
is_full t items = not (t.is_empty items) && list_all is_short items

-- a key may have this value, which is of one of these types
abbrev pub is_kept : List NativeType → Native → Bool
is_kept [] native = false
is_kept (t ∷ types) native = if bytes_eq native.name t.name then is_full t native.items
    else is_kept types native

-- none of the first types has the name of one of the others
abbrev pub are_apart : List NativeType → List NativeType → Bool
are_apart types others = not (list_any (λ t. has_type others t.name) types)
