-- The bytes of a name, by where they lie.
use Rattle.std.specs.Prelude.{◌≡◌, ℕ, true, false, List}
use Rattle.key_store.specs.declared.name.Place.{Place}
use Rattle.key_store.specs.declared.name.Place.TheVariants.{Here, Away}
use Rattle.key_store.specs.inner.Short.{is_short}

abbrev pub bytes_of : Place → List ℕ
bytes_of (Here name) = name
bytes_of (Away name) = name.items

-- what lies in the name is short, and what lies away is not
abbrev pub IsRight : Place → Type 0
IsRight (Here name) = is_short name ≡ true
IsRight (Away name) = is_short name.items ≡ false
