-- What a type means whose commands each work on one key: functions over what its values are saved as.
use Rattle.std.specs.Prelude.{ℕ, Bool, List, Option, Some, None, Result}
use Rattle.core_types.specs.CommandRow.{CommandRow}
use Rattle.core_types.specs.Refusals.{refused}
use Rattle.core_types.specs.declared.load_fault.LoadFault.{LoadFault}
use Rattle.core_types.specs.declared.refusal.Refusal.{Refusal}
use Rattle.core_types.specs.declared.reply.Reply.{Reply}
use Rattle.module_laws.specs.Words.{Bytes, Words, Saved}

-- how a command changes its key
pub record KeyChange : Type 0 where
  -- what the key has afterwards: a value, and then the deadline that it had, or none
  pub left : Option Saved
  -- the words that make the same change again, where they are others than the command's own
  pub effect : Option Words
  -- the name of the event that tells of it
  pub event : Bytes

-- what a command that writes does: it replies, and changes its key or does not
pub record Write : Type 0 where
  pub reply : Reply
  pub change : Option KeyChange

-- The words that a command is given have its name in upper case, and its key behind it.
pub record KeyMeaning : Type 0 where
  -- the name of the type, the version that it saves in, and its commands
  pub name : Bytes
  pub version : ℕ
  pub rows : List CommandRow
  -- the saved values that no key may have
  pub is_empty : Saved → Bool
  -- what a command that reads replies, where the key has this value or none
  pub reads : Option Saved → Words → Reply
  -- what a command that writes does there
  pub writes : Option Saved → Words → Write
  -- what any of them replies where the key has a value of another kind
  pub others : Words → Reply
  -- what a saved value of a version is loaded as
  pub loads : Saved → ℕ → Result Saved LoadFault

-- nothing changes, and this is replied
abbrev pub answers : Reply → Write
answers reply = record { reply = reply; change = None }

-- nothing changes, and the reply is an error
abbrev pub refuses : Refusal → Write
refuses refusal = answers (refused refusal)

-- The key is left so, and the command's own words make the change again.
abbrev pub changes : Option Saved → Bytes → Reply → Write
changes left event reply =
    record { reply = reply; change = Some (record { left = left; effect = None; event = event }) }

-- The key is left so, and these words make the change again.
abbrev pub changes_by : Option Saved → Words → Bytes → Reply → Write
changes_by left effect event reply = record {
  reply = reply;
  change = Some (record { left = left; effect = Some effect; event = event });
}
