-- What a command on one key does: to its value, and beside it.
use Rattle.std.proofs.Common.{inl, inr}
use Rattle.std.specs.Prelude.{◌≡◌, ◌⊎◌, ⊤, ℕ, List, [], ◌∷◌, drop, codes, Option, Some, None}
use Rattle.std.specs.Borrow.{MutBor}
use Rattle.sequences.specs.Words.{word}
use Rattle.core_types.specs.Refusals.{refused}
use Rattle.core_types.specs.declared.effect.Effect.{Effect}
use Rattle.core_types.specs.declared.note.Note.{Note}
use Rattle.core_types.specs.declared.note.NoteClass.{NoteClass}
use Rattle.core_types.specs.declared.note.NoteClass.TheVariants as classes
use Rattle.core_types.specs.declared.refusal.Refusal.{Refusal}
use Rattle.core_types.specs.declared.reply.Reply.{Reply}
use Rattle.core_types.specs.declared.outcome.After.{After}
use Rattle.core_types.specs.declared.outcome.After.TheVariants as after
use Rattle.core_types.specs.declared.outcome.Outcome.{Outcome}

-- what becomes of a key, where B is what its values are
pub data Change (B : Type 0) : Type 0 where
  -- it stays as it is
  Stays : Change B
  -- its value becomes this one, and its deadline stays
  Becomes : (body : B) → Change B
  -- it is set to this value, and has no deadline
  IsSet : (body : B) → Change B
  -- it is removed
  Goes : Change B

-- a command's whole result
pub record Done (B : Type 0) : Type 0 where
  pub change : Change B
  pub reply : Reply
  pub effects : List Effect
  pub notes : List Note

module _ {B : Type 0} where
  -- what the key has afterwards, where it had `old`
  abbrev pub changed : Change B → Option B → Option B
  changed Change.Stays old = old
  changed (Change.Becomes body) old = Some body
  changed (Change.IsSet body) old = Some body
  changed Change.Goes old = None

  -- An answer makes a change, where a value that was there is `now` in place of `old`: a value that
  -- changes is changed in place, and one that is new or set is put. One that is to be put in place
  -- of another leaves that as it is.
  abbrev pub Makes : After B → Option B → Option B → Change B → Type 0
  Makes after.Keep old now Change.Stays = now ≡ old
  Makes after.Keep old now (Change.Becomes body) = now ≡ Some body
  Makes (after.Put new) None now (Change.Becomes body) = new ≡ body
  Makes (after.Put new) old now (Change.IsSet body) = (new ≡ body) × (now ≡ old)
  Makes after.Remove old now Change.Goes = ⊤
  Makes _ old now _ = ⊥

  -- an outcome is what the command's row says
  pub record Does (outcome : Outcome B) (old now : Option B) (done : Done B) : Type 0 where
    pub body : Makes outcome.body old now done.change
    pub reply : outcome.reply ≡ done.reply
    pub effects : outcome.effects ≡ done.effects
    pub notes : outcome.notes ≡ done.notes

  -- nothing changes, and this is replied
  abbrev pub answers : Reply → Done B
  answers reply = record { change = Change.Stays; reply = reply; effects = []; notes = [] }

  -- nothing changes, and the reply is an error
  abbrev pub refuses : Refusal → Done B
  refuses refusal = answers (refused refusal)

  -- a change that one effect makes again, and of which one note tells
  abbrev pub changes : Change B → Reply → Effect → Note → Done B
  changes change reply effect note =
      record { change = change; reply = reply; effects = effect ∷ []; notes = note ∷ [] }

  -- refused, or else done
  abbrev pub unless_refused : Option Refusal → Done B → Done B
  unless_refused None done = done
  unless_refused (Some refusal) done = refuses refusal

  -- what an `Option<&mut B>` points to when the call returns
  abbrev pub option_left : Unit {0} ⊎ ((MutBor B × Unit {0}) ⊎ ⊥) → Option B
  option_left (inl _) = None
  option_left (inr (inl lent)) = Some lent.0.now
  option_left (inr (inr never)) = None

-- the words of the command itself, its name in upper case
abbrev pub own_words : List ℕ → List (List ℕ) → Effect
own_words name words = record { words = name ∷ drop 1 words }

-- the event of this name on the key that stands behind the command's name
abbrev pub note_on_key : NoteClass → List ℕ → List (List ℕ) → Note
note_on_key class name words = record { class = class; name = name; key = word 1 words }

-- the event that this key is removed
abbrev pub del_note : List (List ℕ) → Note
del_note words = note_on_key classes.Generic (codes "del") words
