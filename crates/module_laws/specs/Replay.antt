-- What replaying effects makes of the keys.
use Rattle.std.specs.Prelude.{◌≡◌, ℕ, Bool, true, List, [], ◌∷◌, slice_get, Option, Some, None, if◌then◌else◌}
use Rattle.std.specs.List.{AllByRecursion}
use Rattle.std.specs.Option.{option_and_then}
use Rattle.std.specs.Str.{bytes_eq}
use Rattle.core_types.specs.CommandRow.{CommandRow}
use Rattle.core_types.specs.Keys.{Keys, Native, value_at, with_changed, without}
use Rattle.core_types.specs.Keyspace.{IsKeyspace}
use Rattle.core_types.specs.declared.effect.Effect.{Effect}
use Rattle.core_types.specs.declared.value.Value.{Value}
use Rattle.core_types.specs.declared.value.Value.TheVariants as value
use Rattle.core_types.specs.Limits.{IsWithinLimits, IsSmallEffect}
use Rattle.module_laws.specs.Meaning.{Meaning}
use Rattle.module_laws.specs.Named.{command_name, has_dot, row_named}
use Rattle.module_laws.specs.Told.{Builtins, Called, call_of}
use Rattle.module_laws.specs.Words.{Bytes, Words, Saved}

-- a module, and the row of one of its commands
pub record Owned : Type 0 where
  pub meaning : Meaning
  pub row : CommandRow

abbrev pub owned_by : Meaning → Option CommandRow → Option Owned → Option Owned
owned_by meaning (Some row) rest = Some (record { meaning = meaning; row = row })
owned_by meaning None rest = rest

-- whose command this is, and its row, where it is that of a module
abbrev pub owner_of : List Meaning → Bytes → Option Owned
owner_of [] name = None
owner_of (meaning ∷ meanings) name =
    owned_by meaning (row_named name meaning.rows) (owner_of meanings name)

-- what a module finds at a key: a value of its own or none, or no answer where the key has another
abbrev pub own_value : Bytes → Option (Value Native) → Option (Option Saved)
own_value name None = Some None
own_value name (Some (value.Native native)) = if bytes_eq native.name name
    then Some (Some native.items) else None
own_value name (Some _) = None

-- A key gets this value of a module, and keeps the deadline that it had; or it is removed.
abbrev pub with_after : Bytes → Bytes → Keys → Option Saved → Keys
with_after name key keys None = without keys key
with_after name key keys (Some items) =
    with_changed keys key (value.Native (record { name = name; items = items }))

-- words of a module's own, on a key
abbrev pub replayed_on : Meaning → Keys → Words → Bytes → Option Keys
replayed_on meaning keys words key =
    option_and_then (λ old. option_and_then
    (λ items. Some (with_after meaning.name key keys items)) (meaning.after old words))
    (own_value meaning.name (value_at keys key))

-- a command of a module, where it writes and has a word at the place of its key
abbrev pub replayed_own : Keys → Words → Owned → Option Keys
replayed_own keys words owned =
    if owned.row.writes then option_and_then (replayed_on owned.meaning keys words)
    (slice_get words owned.row.key) else None

abbrev pub replayed_by : Builtins → Keys → Effect → Option Owned → Option Keys
replayed_by builtins keys effect None = builtins.replays keys effect
replayed_by builtins keys effect (Some owned) = replayed_own keys effect.words owned

-- an effect of a module's own or of a built-in command
abbrev pub replayed : Builtins → List Meaning → Keys → Effect → Option Keys
replayed builtins meanings keys effect =
    replayed_by builtins keys effect (owner_of meanings (command_name effect.words))

-- effects in order, as far as each has an answer
abbrev pub replayed_all : Builtins → List Meaning → Keys → List Effect → Option Keys
replayed_all builtins meanings keys [] = Some keys
replayed_all builtins meanings keys (effect ∷ effects) =
    option_and_then (λ made. replayed_all builtins meanings made effects)
    (replayed builtins meanings keys effect)

-- a call of words leaves keys that its small effects make again
pub record IsFaithful (builtins : Builtins) (allowed : Native → Bool) (keys : Keys)
    (done : Called) : Type 0 where
  pub replayed : replayed_all builtins [] keys done.effects ≡ Some done.keys
  pub small : AllByRecursion IsSmallEffect done.effects
  pub kept : IsKeyspace allowed done.keys

-- the built-in commands are such as modules rest on
pub record AreFaithful (builtins : Builtins) : Type 0 where
  pub dotless : (keys : Keys) (effect : Effect) → has_dot (command_name effect.words) ≡ true
      → builtins.replays keys effect ≡ None
  pub calls : (allowed : Native → Bool) (keys : Keys) (moment : ℕ) (words : Words)
      → IsKeyspace allowed keys → IsWithinLimits words
      → IsFaithful builtins allowed keys (call_of builtins keys moment words)
