-- What a command on the keys does: to the keys, and beside them.
use Rattle.std.specs.Prelude.{List, [], ◌∷◌, Option, Some}
use Rattle.core_types.specs.Keys.{KeysOf}
use Rattle.core_types.specs.Refusals.{refused}
use Rattle.core_types.specs.declared.effect.Effect.{Effect}
use Rattle.core_types.specs.declared.note.Note.{Note}
use Rattle.core_types.specs.declared.refusal.Refusal.{Refusal}
use Rattle.core_types.specs.declared.reply.Reply.{Reply}
use Rattle.core_types.specs.declared.value.Value.{Value}
use Rattle.core_types.specs.declared.value.Value.TheVariants as value
use Rattle.key_cmds.specs.declared.ran.Ran.{Ran}

-- a command's whole result: the keys after it, what it answers, the changes as commands that make
-- them again, the events, and the values of modules that left the keys
pub record Run (N : Type 0) : Type 0 where
  pub keys : KeysOf N
  pub reply : Reply
  pub effects : List Effect
  pub notes : List Note
  pub left : List N

module _ {N : Type 0} where
  -- nothing changes, and this is replied
  abbrev pub answers : Reply → KeysOf N → Run N
  answers reply keys = record { keys = keys; reply = reply; effects = []; notes = []; left = [] }

  -- nothing changes, and the reply is an error
  abbrev pub refuses : Refusal → KeysOf N → Run N
  refuses refusal keys = answers (refused refusal) keys

  -- a module's value, where this is what leaves
  abbrev pub native_in : Option (Value N) → List N
  native_in (Some (value.Native native)) = native ∷ []
  native_in _ = []

  -- what is given of it, beside the keys and what left them
  abbrev pub told : Run N → Ran
  told run = record { reply = run.reply; effects = run.effects; notes = run.notes }
