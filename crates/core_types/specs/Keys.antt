-- The keys: a finite map from byte strings to values with deadlines. All else speaks of them
-- through these words.
use Rattle.std.specs.Prelude.{ℕ, List, Option, None, Some}
use Rattle.std.specs.Option.{option_and_then, option_map}
use Rattle.std.specs.Ordering.{nat_cmp}
use Rattle.std.specs.Cmp.Lexicographic.{slice_cmp}
use Rattle.std.specs.FinMap as map
use Rattle.core_types.specs.declared.tagged.Tagged.{Tagged}
use Rattle.core_types.specs.declared.value.Value.{Value}

-- what a key has: a value, and the moment in milliseconds at which it is due, where it has one
pub record Entry (N : Type 0) : Type 0 where
  pub value : Value N
  pub deadline : Option ℕ

-- a value of a module, as contracts see it: the name of its type, and what it is saved as
pub record Native : Type 0 where
  pub name : List ℕ
  pub items : List Tagged

-- the keys, where N stands for the values of modules
abbrev pub KeysOf : Type 0 → Type 0
KeysOf N = map.FinMap (slice_cmp nat_cmp) (Entry N)

-- the keys as a client knows them
abbrev pub Keys : Type 0
Keys = KeysOf Native

module _ {N : Type 0} where
  abbrev pub no_keys : KeysOf N
  no_keys = map.empty

  -- what a key has, where it is there
  abbrev pub entry_at : KeysOf N → List ℕ → Option (Entry N)
  entry_at keys key = map.get keys key

  -- its value
  abbrev pub value_at : KeysOf N → List ℕ → Option (Value N)
  value_at keys key = option_map (λ entry. entry.value) (entry_at keys key)

  -- its deadline, where it has one
  abbrev pub deadline_at : KeysOf N → List ℕ → Option ℕ
  deadline_at keys key = option_and_then (λ entry. entry.deadline) (entry_at keys key)

  -- the same keys, but for one that has this
  abbrev pub with_entry : KeysOf N → List ℕ → Entry N → KeysOf N
  with_entry keys key entry = map.insert keys key entry

  -- a key is set: it has this value, and no deadline
  abbrev pub with_value : KeysOf N → List ℕ → Value N → KeysOf N
  with_value keys key value = with_entry keys key (record { value = value; deadline = None })

  -- a key's value is changed: it has this value, and keeps the deadline that it had
  abbrev pub with_changed : KeysOf N → List ℕ → Value N → KeysOf N
  with_changed keys key value =
      with_entry keys key (record { value = value; deadline = deadline_at keys key })

  -- a key gets this deadline, or none, where this is what it has
  abbrev pub with_due : KeysOf N → List ℕ → Option ℕ → Option (Entry N) → KeysOf N
  with_due keys key deadline None = keys
  with_due keys key deadline (Some entry) =
      with_entry keys key (record entry { deadline = deadline })

  -- a key that is there gets this deadline, or none
  abbrev pub with_deadline : KeysOf N → List ℕ → Option ℕ → KeysOf N
  with_deadline keys key deadline = with_due keys key deadline (entry_at keys key)

  -- the same keys, but for one that is not there
  abbrev pub without : KeysOf N → List ℕ → KeysOf N
  without keys key = map.remove keys key

  -- one key's entry, where this is what it has, is moved to another
  abbrev pub with_moved : KeysOf N → List ℕ → List ℕ → Option (Entry N) → KeysOf N
  with_moved keys from to None = keys
  with_moved keys from to (Some entry) = with_entry (without keys from) to entry

  -- what one key has is moved to another, with its deadline, and takes the place of what that had
  abbrev pub renamed : KeysOf N → List ℕ → List ℕ → KeysOf N
  renamed keys from to = with_moved keys from to (entry_at keys from)

  -- how many keys there are
  abbrev pub key_count : KeysOf N → ℕ
  key_count keys = map.len keys
