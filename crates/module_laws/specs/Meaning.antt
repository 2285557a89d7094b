-- What a module means: functions over its private state and what it sees.
use Rattle.std.specs.Prelude.{ℕ, Bool, List, Option, Result}
use Rattle.core_types.specs.CommandRow.{CommandRow}
use Rattle.core_types.specs.Keys.{Keys}
use Rattle.core_types.specs.declared.effect.Effect.{Effect}
use Rattle.core_types.specs.declared.load_fault.LoadFault.{LoadFault}
use Rattle.core_types.specs.declared.note.Note.{Note}
use Rattle.core_types.specs.declared.reply.Reply.{Reply}
use Rattle.module_laws.specs.Told.{Seen}
use Rattle.module_laws.specs.Types.{NativeType}
use Rattle.module_laws.specs.Words.{Bytes, Words, Saved}
use Rattle.module_laws.specs.declared.verdict.Verdict.{Verdict}

-- what a call gives: its answer, the private state, the keys, and the effects and notes that it
-- adds
pub record Did (A : Type 0) : Type 0 where
  pub answer : A
  pub private : Saved
  pub keys : Keys
  pub effects : List Effect
  pub notes : List Note

-- what a note gives: the private state, and the words of each chore
pub record Heard : Type 0 where
  pub private : Saved
  pub chores : List Words

pub record Meaning : Type 0 where
  -- the name of its type, the version that it saves in, and its commands
  pub name : Bytes
  pub version : ℕ
  pub rows : List CommandRow
  -- the saved values that no key may have
  pub is_empty : Saved → Bool
  -- a command of its own
  pub says : Saved → Seen → Words → Did Verdict
  -- a client that it blocked is answered: with a payload, or since its time is up
  pub replies : Saved → Seen → Bytes → Did Reply
  pub times_out : Saved → Seen → Bytes → Did Reply
  -- a client that it blocked is gone
  pub goes : Saved → Seen → Bytes → Did (Unit {0})
  -- a section asks something of it
  pub tells : Saved → Seen → Bytes → Did Bytes
  -- it is told a note
  pub hears : Saved → Note → Heard
  -- what an effect of its own makes of a value, or of none: none where it makes nothing of it, else
  -- a value or none
  pub after : Option Saved → Words → Option (Option Saved)
  -- what a saved value of a version is loaded as
  pub loads : Saved → ℕ → Result Saved LoadFault
  -- the payload that a worker makes of a job
  pub works : Bytes → Bytes

-- the type of its values
abbrev pub type_of : Meaning → NativeType
type_of meaning = record { name = meaning.name; is_empty = meaning.is_empty }
