-- What a context tells of the keys that a module works on.
use Rattle.std.specs.Prelude.{◌≡◌, ⊤, ℕ, Bool, true, false, List, [], ◌∷◌, ◌++◌, length, Option, Some, None, if◌then◌else◌}
use Rattle.std.specs.Option.{option_map}
use Rattle.std.specs.Str.{bytes_eq}
use Rattle.core_types.specs.CommandRow.{CommandRow, takes}
use Rattle.core_types.specs.Keys.{Keys, Native, value_at, with_value, with_changed, without}
use Rattle.core_types.specs.Refusals.{refused, wrong_arity}
use Rattle.core_types.specs.declared.effect.Effect.{Effect}
use Rattle.core_types.specs.declared.note.Note.{Note}
use Rattle.core_types.specs.declared.refusal.Refusal.TheVariants as refusal
use Rattle.core_types.specs.declared.reply.Reply.{Reply}
use Rattle.core_types.specs.declared.value.Value.{Value}
use Rattle.core_types.specs.declared.value.Value.TheVariants as value
use Rattle.core_types.specs.declared.value.Kind.{Kind}
use Rattle.core_types.specs.declared.value.Kind.TheVariants as kind
use Rattle.module_laws.specs.Named.{command_name, row_named}
use Rattle.module_laws.specs.Types.{NativeType, has_type}
use Rattle.module_laws.specs.Words.{Words}
use Rattle.module_laws.specs.declared.context.KeyFault.{KeyFault}
use Rattle.module_laws.specs.declared.context.KeyFault.TheVariants as key_fault
use Rattle.module_laws.specs.declared.context.MutFault.{MutFault}
use Rattle.module_laws.specs.declared.context.MutFault.TheVariants as mut_fault
use Rattle.module_laws.specs.declared.context.SetFault.{SetFault}
use Rattle.module_laws.specs.declared.context.SetFault.TheVariants as set_fault

-- what a call of words gives: its reply, the keys, and the effects and notes that it adds
pub record Called : Type 0 where
  pub reply : Reply
  pub keys : Keys
  pub effects : List Effect
  pub notes : List Note

-- The built-in commands on keys. A host tells those that it has: the row of each, and what each
-- does as it is defined.
pub record Builtins : Type 0 where
  pub rows : List CommandRow
  -- what words of one of them, as many as it takes, give on these keys at this moment
  pub does : Keys → ℕ → Words → Called
  -- what replaying an effect that is a built-in command makes of the keys, where it has an answer
  pub replays : Keys → Effect → Option Keys

-- a reply, and nothing else
abbrev pub says_only : Reply → Keys → Called
says_only said keys = record { reply = said; keys = keys; effects = []; notes = [] }

-- words of a command of this row, where there is one
abbrev pub call_by : Builtins → Keys → ℕ → Words → Option CommandRow → Called
call_by builtins keys moment words None = says_only (refused refusal.NotAKeyCommand) keys
call_by builtins keys moment words (Some row) =
    if takes row.arity (length words) then builtins.does keys moment words
    else says_only (wrong_arity row.name) keys

-- What a module's call of these words gives, on these keys at this moment: a built-in command on
-- keys does what it is defined to do. For any other command, as a module's, one of a connection or
-- SAVE, the reply is an error.
abbrev pub call_of : Builtins → Keys → ℕ → Words → Called
call_of builtins keys moment words =
    call_by builtins keys moment words (row_named (command_name words) builtins.rows)

-- what a module sees: the keys, the moment, and what the built-in commands do
pub record Seen : Type 0 where
  pub builtins : Builtins
  pub keys : Keys
  pub moment : ℕ

-- what a context tells: what a module sees, what was added, and whether another value can be put in
pub record Told : Type 0 where
  pub seen : Seen
  pub effects : List Effect
  pub notes : List Note
  -- the type of each value that was put in, in order
  pub added : List (List ℕ)
  pub has_serial : Bool

-- the kind of a value
abbrev pub kind_of : Value Native → Kind
kind_of (value.Str text) = kind.Str
kind_of (value.List items) = kind.List
kind_of (value.Hash fields) = kind.Hash
kind_of (value.Native native) = kind.Native native.name

abbrev pub kind_at : Keys → List ℕ → Option Kind
kind_at keys key = option_map kind_of (value_at keys key)

-- a kind that is none of these types
abbrev pub IsForeign : List NativeType → Kind → Type 0
IsForeign types (kind.Native name) = has_type types name ≡ false
IsForeign types _ = ⊤

-- why a key has no value of these types
abbrev pub HasFault : List NativeType → Option Kind → KeyFault → Type 0
HasFault types found key_fault.Empty = found ≡ None
HasFault types found (key_fault.NotOurs other) = (found ≡ Some other) × IsForeign types other

-- why none is lent to be changed; want of memory is free
abbrev pub MayFail : List NativeType → Option Kind → MutFault → Type 0
MayFail types found mut_fault.Empty = found ≡ None
MayFail types found (mut_fault.NotOurs other) = (found ≡ Some other) × IsForeign types other
MayFail types found mut_fault.Memory = ⊤

-- the keys become these
abbrev pub with_keys : Keys → Told → Told
with_keys keys told = record told { seen = record told.seen { keys = keys } }

-- a key's value is now this one, and its deadline stays
abbrev pub with_native : List ℕ → Native → Told → Told
with_native key native told = with_keys (with_changed told.seen.keys key (value.Native native)) told

-- this is a value of the type of that name
abbrev pub is_typed : List ℕ → Option (Value Native) → Bool
is_typed name (Some (value.Native native)) = bytes_eq native.name name
is_typed name _ = false

-- A write over this value leaves the types as they were where the new value has the same type, and
-- clears that each value has the type that it was put in with where it has another.
pub record KeepsTypes (written : Native) (there : Option (Value Native))
    (old new : Bool) : Type 0 where
  pub same : is_typed written.name there ≡ true → new ≡ old
  pub other : is_typed written.name there ≡ false → old ≡ true → new ≡ false

-- A key is set to a value. Where it had one of the same type the deadline stays, and else there is
-- none.
abbrev pub with_set : List ℕ → Native → Keys → Keys
with_set key native keys =
    if is_typed native.name (value_at keys key) then with_changed keys key (value.Native native)
    else with_value keys key (value.Native native)

-- A value was put in, and there is a serial for another one or not.
abbrev pub with_put : List ℕ → Native → Bool → Told → Told
with_put key native has_serial told =
    record (with_keys (with_set key native told.seen.keys) told) {
      added =
          told.added ++ native.name ∷ [];
      has_serial = has_serial;
    }

-- a key was removed
abbrev pub with_deleted : List ℕ → Told → Told
with_deleted key told = with_keys (without told.seen.keys key) told

-- what a call of these words gives
abbrev pub called : Seen → Words → Called
called seen words = call_of seen.builtins seen.keys seen.moment words

-- words were called
abbrev pub with_called : Words → Told → Told
with_called words told =
    let done = called told.seen words in
    record (with_keys done.keys told) {
      effects = told.effects ++ done.effects;
      notes =
          told.notes ++ done.notes;
    }

abbrev pub with_effect : Effect → Told → Told
with_effect effect told = record told { effects = told.effects ++ effect ∷ [] }

abbrev pub with_note : Note → Told → Told
with_note note told = record told { notes = told.notes ++ note ∷ [] }

-- why a key of this kind, or none, has no value of one's own
abbrev pub fault_of : Option Kind → MutFault
fault_of None = mut_fault.Empty
fault_of (Some found) = mut_fault.NotOurs found

-- why a value may not be put in; want of memory is free
abbrev pub MayRefuse : Told → SetFault → Type 0
MayRefuse told set_fault.ReadOnly = ⊥
MayRefuse told set_fault.Memory = ⊤
MayRefuse told set_fault.NumbersSpent = told.has_serial ≡ false
