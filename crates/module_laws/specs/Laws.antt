-- The laws that a module's meaning obeys.
use Rattle.std.specs.Prelude.{◌≡◌, ⊤, ℕ, ◌<◌, ◌≤◌, Bool, true, false, List, [], ◌∷◌, map, length, Option, Some, None, Ok}
use Rattle.std.specs.Char.{to_ascii_uppercase}
use Rattle.std.specs.List.{AllByRecursion, list_all}
use Rattle.core_types.specs.CommandRow.{CommandRow, MeetArity}
use Rattle.core_types.specs.Keys.{Native}
use Rattle.core_types.specs.Keyspace.{IsString, IsKeyspace}
use Rattle.core_types.specs.Limits.{IsWithinLimits, IsSmallEffect}
use Rattle.core_types.specs.declared.note.Note.{Note}
use Rattle.type_ids.specs.Name.{IsTypeName}
use Rattle.module_laws.specs.Meaning.{Did, Meaning, type_of}
use Rattle.module_laws.specs.Named.{are_distinct, command_name, has_dot, row_named}
use Rattle.module_laws.specs.Replay.{AreFaithful, replayed_all}
use Rattle.module_laws.specs.Told.{Seen}
use Rattle.module_laws.specs.Types.{NativeType, has_type, is_full, is_kept, is_short}
use Rattle.module_laws.specs.Words.{Bytes, Words, Saved}
use Rattle.module_laws.specs.declared.verdict.Verdict.{Verdict}
use Rattle.module_laws.specs.declared.verdict.Verdict.TheVariants as verdict

-- a command of a module: its name is in upper case and has a dot, and where it writes it names a
-- key
pub record IsCommand (row : CommandRow) : Type 0 where
  pub upper : map to_ascii_uppercase row.name ≡ row.name
  pub dotted : has_dot row.name ≡ true
  pub keyed : row.writes ≡ true → 0 < row.key

pub record AreCommands (rows : List CommandRow) : Type 0 where
  pub each : AllByRecursion IsCommand rows
  pub distinct : are_distinct (map (λ row. row.name) rows) ≡ true
  pub few : length rows ≤ 200

-- the words of a request that names one of these commands, and are as many as it takes
pub record IsCall (rows : List CommandRow) (words : Words) : Type 0 where
  pub row : CommandRow
  pub named : row_named (command_name words) rows ≡ Some row
  pub arity : MeetArity row words
  pub limits : IsWithinLimits words

-- the words name one of these commands, which writes
pub record IsWriting (rows : List CommandRow) (words : Words) : Type 0 where
  pub row : CommandRow
  pub named : row_named (command_name words) rows ≡ Some row
  pub writes : row.writes ≡ true

-- of values of these types exactly those are allowed that a key may have
abbrev pub Allows : List NativeType → (Native → Bool) → Type 0
Allows types allowed = (native : Native) → has_type types native.name ≡ true
    → allowed native ≡ is_kept types native

-- what a module may rest on: the keys are a keyspace, and what the built-in commands do can be
-- replayed
pub record IsSound (types : List NativeType) (allowed : Native → Bool) (seen : Seen) : Type 0 where
  pub builtins : AreFaithful seen.builtins
  pub allows : Allows types allowed
  pub keys : IsKeyspace allowed seen.keys

-- A call was done as it has to be: replaying its effects makes its keys, each effect can be logged,
-- and the keys are still a keyspace.
pub record IsDone {A : Type 0} (meanings : List Meaning) (allowed : Native → Bool) (seen : Seen)
    (did : Did A) : Type 0 where
  pub replayed : replayed_all seen.builtins meanings seen.keys did.effects ≡ Some did.keys
  pub small : AllByRecursion IsSmallEffect did.effects
  pub kept : IsKeyspace allowed did.keys

-- The law of effects, where these are the modules: whatever a call changes, its effects make again.
pub record EffectsMakeTheKeys (meanings : List Meaning) (meaning : Meaning) : Type 0 where
  pub says : (allowed : Native → Bool) (private : Saved) (seen : Seen) (words : Words)
      → IsSound (type_of meaning ∷ []) allowed seen → IsCall meaning.rows words
      → IsDone meanings allowed seen (meaning.says private seen words)
  pub replies : (allowed : Native → Bool) (private : Saved) (seen : Seen) (payload : Bytes)
      → IsSound (type_of meaning ∷ []) allowed seen
      → IsDone meanings allowed seen (meaning.replies private seen payload)
  pub times_out : (allowed : Native → Bool) (private : Saved) (seen : Seen) (job : Bytes)
      → IsSound (type_of meaning ∷ []) allowed seen
      → IsDone meanings allowed seen (meaning.times_out private seen job)
  pub goes : (allowed : Native → Bool) (private : Saved) (seen : Seen) (job : Bytes)
      → IsSound (type_of meaning ∷ []) allowed seen
      → IsDone meanings allowed seen (meaning.goes private seen job)
  pub tells : (allowed : Native → Bool) (private : Saved) (seen : Seen) (op : Bytes)
      → IsSound (type_of meaning ∷ []) allowed seen → IsString op
      → IsDone meanings allowed seen (meaning.tells private seen op)

-- a value that was there, if one was, is one that a key may have
abbrev pub IsFullOrNone : Meaning → Option Saved → Type 0
IsFullOrNone meaning None = ⊤
IsFullOrNone meaning (Some items) = is_full (type_of meaning) items ≡ true

-- words of this command of which `after` makes something, a value or none, where a key has this value
-- or none
pub record IsWritten (meaning : Meaning) (row : CommandRow) : Type 0 where
  pub words : Words
  pub old : Option Saved
  pub left : Option Saved
  pub named : command_name words ≡ row.name
  pub arity : MeetArity row words
  pub limits : IsWithinLimits words
  pub full : IsFullOrNone meaning old
  pub made : meaning.after old words ≡ Some left

abbrev pub IsWrittenWhere : Bool → Meaning → CommandRow → Type 0
IsWrittenWhere true meaning row = IsWritten meaning row
IsWrittenWhere false meaning row = ⊤

-- The law of writing: a command writes exactly where `after` is written for it. `after` makes
-- something of words of commands that write alone, and of some words of each of these.
pub record WritesAsAfter (meaning : Meaning) : Type 0 where
  pub none_else : (old : Option Saved) (words : Words) (left : Option Saved)
      → meaning.after old words ≡ Some left → IsWriting meaning.rows words
  pub each : AllByRecursion (λ row. IsWrittenWhere row.writes meaning row) meaning.rows

-- a reply, for which no client waits
abbrev pub IsReply : Verdict → Type 0
IsReply (verdict.Say said) = ⊤
IsReply (verdict.Block timeout job) = ⊥

-- The law of waiting: no client waits for a command that writes.
abbrev pub AnswersAtOnce : Meaning → Type 0
AnswersAtOnce meaning = (private : Saved) (seen : Seen) (words : Words)
    → (call : IsCall meaning.rows words) → call.row.writes ≡ true
    → IsReply (meaning.says private seen words).answer

-- The law of limits: no value, no byte string and no words beyond what keys and requests may have.
pub record LimitsAreKept (meaning : Meaning) : Type 0 where
  pub after : (old : Option Saved) (words : Words) (items : Saved) → IsFullOrNone meaning old
      → IsWithinLimits words → meaning.after old words ≡ Some (Some items)
      → is_full (type_of meaning) items ≡ true
  pub loads : (items : Saved) (version : ℕ) (value : Saved) → list_all is_short items ≡ true
      → meaning.loads items version ≡ Ok value → list_all is_short value ≡ true
  pub chores : (private : Saved) (note : Note)
      → AllByRecursion IsWithinLimits (meaning.hears private note).chores

-- the laws that speak of the meaning alone
pub record IsLawful (meaning : Meaning) : Type 0 where
  pub named : IsTypeName meaning.name
  pub versioned : meaning.version ≤ 1023
  pub commands : AreCommands meaning.rows
  pub effects : EffectsMakeTheKeys (meaning ∷ []) meaning
  pub writes : WritesAsAfter meaning
  pub at_once : AnswersAtOnce meaning
  pub limits : LimitsAreKept meaning
