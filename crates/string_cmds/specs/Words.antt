-- What the words of a command on a string say, and what a key holds.
use Rattle.std.specs.Prelude.{ℕ, ℤ, pos, negsuc, List, [], Option, Some, None, unwrap_or}
use Rattle.core_types.specs.Done.{note_on_key}
use Rattle.core_types.specs.declared.note.Note.{Note}
use Rattle.core_types.specs.declared.note.NoteClass.TheVariants as class
use Rattle.core_types.specs.declared.refusal.Refusal.{Refusal}
use Rattle.core_types.specs.declared.refusal.Refusal.TheVariants as refusal

-- the bytes of a key; of one that is not there, none
abbrev pub held_bytes : Option (List ℕ) → List ℕ
held_bytes old = unwrap_or old []

-- a number as an offset, which is never below 0
abbrev pub offset_of : ℤ → ℕ
offset_of (pos n) = n
offset_of (negsuc n) = 0

-- an offset is refused where the word writes no number, or one below 0
abbrev pub no_offset : Option ℤ → Option Refusal
no_offset None = Some refusal.NotAnInteger
no_offset (Some (pos n)) = None
no_offset (Some (negsuc n)) = Some refusal.OffsetOutOfRange

-- the event of this name on the key of the words
abbrev pub string_note : List ℕ → List (List ℕ) → Note
string_note name words = note_on_key class.String name words
