-- The laws of the words over the keys.
use Rattle.std.specs.Prelude.{◌≡◌, ℕ, ◌+◌, ◌-◌, Bool, List, Option, Some, None, is_some, if◌then◌else◌}
use Rattle.std.specs.Str.{bytes_eq}
use Rattle.core_types.specs.declared.value.Value.{Value}
use Rattle.core_types.specs.Keys.{Entry, KeysOf, entry_at, with_entry, with_value, with_changed, with_deadline, without, renamed, key_count}
use Rattle.core_types.specs.Keyspace.{IsString, IsValue, IsDeadline, IsEntry, IsKeyspace}

-- the keys are known by what each key has, and each word changes that key alone
pub record KeysByKey (N : Type 0) : Type 0 where
  pub set : (keys : KeysOf N) (key : List ℕ) (entry : Entry N) (other : List ℕ)
      → entry_at (with_entry keys key entry) other
      ≡ (if bytes_eq other key then Some entry else entry_at keys other)
  pub removed : (keys : KeysOf N) (key other : List ℕ)
      → entry_at (without keys key) other
      ≡ (if bytes_eq other key then None else entry_at keys other)
  pub set_count : (keys : KeysOf N) (key : List ℕ) (entry : Entry N)
      → key_count (with_entry keys key entry)
      ≡ (if is_some (entry_at keys key) then key_count keys else key_count keys + 1)
  pub removed_count : (keys : KeysOf N) (key : List ℕ)
      → key_count (without keys key)
      ≡ (if is_some (entry_at keys key) then key_count keys - 1 else key_count keys)
  pub same : (keys others : KeysOf N)
      → ((key : List ℕ) → entry_at keys key ≡ entry_at others key) → keys ≡ others

-- What the keys may be, they stay, under each word with a key and a value that they may have.
pub record KeyspaceIsKept (N : Type 0) (allowed : N → Bool) (keys : KeysOf N) : Type 0 where
  pub set : (key : List ℕ) (entry : Entry N)
      → IsString key → IsEntry allowed entry → IsKeyspace allowed (with_entry keys key entry)
  pub valued : (key : List ℕ) (value : Value N)
      → IsString key → IsValue allowed value → IsKeyspace allowed (with_value keys key value)
  pub changed : (key : List ℕ) (value : Value N)
      → IsString key → IsValue allowed value → IsKeyspace allowed (with_changed keys key value)
  pub due : (key : List ℕ) (deadline : Option ℕ)
      → IsDeadline deadline → IsKeyspace allowed (with_deadline keys key deadline)
  pub removed : (key : List ℕ) → IsKeyspace allowed (without keys key)
  pub moved : (from to : List ℕ) → IsString to → IsKeyspace allowed (renamed keys from to)
