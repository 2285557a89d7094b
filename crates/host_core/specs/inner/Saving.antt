-- Keys as a list, each with what it has.
use Rattle.std.specs.Prelude.{◌≡◌, ℕ, List, length, map}
use Rattle.std.specs.FinMap as finite
use Rattle.core_types.specs.Keys.{Entry, Keys, Native, key_count}
use Rattle.host_core.specs.declared.opening.SavedKey.{SavedKey}

-- a key with what it has
abbrev pub saved_entry : SavedKey → List ℕ × Entry Native
saved_entry saved = (saved.key, record { value = saved.value; deadline = saved.deadline })

abbrev pub saved_keys : List SavedKey → Keys
saved_keys saved = finite.from_entries (map saved_entry saved)

-- all of the keys, each once
pub record HasCopied (saved : List SavedKey) (keys : Keys) : Type 0 where
  pub same : saved_keys saved ≡ keys
  pub each : key_count keys ≡ length saved
