-- What the words of a command on a hash say, and what a key holds.
use Rattle.std.specs.Prelude.{ℕ, ℤ, ◌%◌, ◌==◌, if◌then◌else◌, List, [], ◌∷◌, length, Option, Some, None, unwrap_or}
use Rattle.core_types.specs.Done.{Done, answers, note_on_key}
use Rattle.core_types.specs.Refusals.{refused, wrong_arity}
use Rattle.core_types.specs.declared.field.Field.{Field}
use Rattle.core_types.specs.declared.note.Note.{Note}
use Rattle.core_types.specs.declared.note.NoteClass.TheVariants as class
use Rattle.core_types.specs.declared.refusal.Refusal.TheVariants as refusal
use Rattle.core_types.specs.declared.reply.Reply.{Reply}

-- the fields of a key; of one that is not there, none
abbrev pub fields_held : Option (List Field) → List Field
fields_held old = unwrap_or old []

-- a name and its value, and so on; a last name without a value is none
abbrev pub pairs : List (List ℕ) → List Field
pairs (name ∷ value ∷ rest) = record { name = name; value = value } ∷ pairs rest
pairs (name ∷ []) = []
pairs [] = []

-- the words behind the key are pairs exactly where those of the command are of an even number
abbrev pub no_pairs : List ℕ → List (List ℕ) → Option Reply
no_pairs name words = if length words % 2 == 1 then Some (wrong_arity name) else None

-- a word is refused that writes no number
abbrev pub no_number : Option ℤ → Option Reply
no_number None = Some (refused refusal.NotAnInteger)
no_number (Some n) = None

-- this error where there is one, or else done
abbrev pub unless_wrong : Option Reply → Done (List Field) → Done (List Field)
unless_wrong None done = done
unless_wrong (Some error) done = answers error

-- the event of this name on the key of the words
abbrev pub hash_note : List ℕ → List (List ℕ) → Note
hash_note name words = note_on_key class.Hash name words
