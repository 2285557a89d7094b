-- What holds of every command on one key, whatever kind of value it is for.
use Rattle.std.specs.Prelude.{◌≡◌, ◌≢◌, ℕ, List, [], ◌∷◌, codes, Option}
use Rattle.std.specs.List.{AllByRecursion}
use Rattle.core_types.specs.CommandRow.{CommandRow, MeetArity}
use Rattle.core_types.specs.Done.{Change, Done, changed}
use Rattle.core_types.specs.Limits.{IsSmallEffect}
use Rattle.core_types.specs.Refusals.{IsRefusal}
use Rattle.core_types.specs.declared.effect.Effect.{Effect}
use Rattle.core_types.specs.declared.note.Note.{Note}
use Rattle.core_types.specs.declared.note.NoteClass.{NoteClass}
use Rattle.core_types.specs.declared.note.NoteClass.TheVariants as class
use Rattle.sequences.specs.Words.{word}

module _ {B : Type 0} where
  -- the key stays as it is, and nobody is told of anything
  pub record ChangesNothing (done : Done B) : Type 0 where
    pub change : done.change ≡ Change.Stays
    pub effects : done.effects ≡ []
    pub notes : done.notes ≡ []

  -- the event that a key is removed, where it is
  abbrev pub removal_notes : Change B → List ℕ → List Note
  removal_notes Change.Goes key =
      record { class = class.Generic; name = codes "del"; key = key } ∷ []
  removal_notes _ key = []

  -- the value, where the key had `old`, and each effect keep the limits
  pub record KeepsLimits (kept : Option B → Type 0) (old : Option B) (done : Done B) : Type 0 where
    pub value : kept (changed done.change old)
    pub effects : AllByRecursion IsSmallEffect done.effects

-- the commands, by their rows, and what they do to a key as it is
module _ {Cmd B : Type 0} (row_of : Cmd → CommandRow) (acts : Cmd → List (List ℕ) → Done B)
    (key : List ℕ) where
  -- the words are those of a command that makes this change of this key
  pub record Remakes (change : Change B) (words : List (List ℕ)) : Type 0 where
    pub cmd : Cmd
    pub named : word 0 words ≡ (row_of cmd).name
    pub arity : MeetArity (row_of cmd) words
    pub key_at : word (row_of cmd).key words ≡ key
    pub again : (acts cmd words).change ≡ change
    pub accepted : ¬ IsRefusal (acts cmd words).reply

  -- a change of the key, with one effect that makes it again and one event of this class that tells
  -- of it, with these behind it
  pub record ChangesOnce (class : NoteClass) (more : List Note) (done : Done B) : Type 0 where
    pub effect : Effect
    pub note : Note
    pub changed : done.change ≢ Change.Stays
    pub accepted : ¬ IsRefusal done.reply
    pub effects : done.effects ≡ effect ∷ []
    pub notes : done.notes ≡ note ∷ more
    pub remakes : Remakes done.change effect.words
    pub note_class : note.class ≡ class
    pub note_key : note.key ≡ key
