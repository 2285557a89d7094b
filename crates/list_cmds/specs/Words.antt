-- What the words of a command on a list say, and what a key holds.
use Rattle.std.specs.Prelude.{ℕ, ℤ, pos, negsuc, ◌+◌, ◌-◌, nat_lt, min, if◌then◌else◌, List, [], Option, Some, None, unwrap_or}
use Rattle.core_types.specs.Done.{note_on_key}
use Rattle.core_types.specs.declared.note.Note.{Note}
use Rattle.core_types.specs.declared.note.NoteClass.TheVariants as class
use Rattle.core_types.specs.declared.reply.Reply.{Reply}
use Rattle.core_types.specs.declared.reply.Reply.TheVariants as reply

-- the items of a key; of one that is not there, none
abbrev pub held_items : Option (List (List ℕ)) → List (List ℕ)
held_items old = unwrap_or old []

-- which of this many items a number names: one below 0 counts from the end
abbrev pub place_of : ℕ → ℤ → Option ℕ
place_of size (pos n) = if nat_lt n size then Some n else None
place_of size (negsuc n) = if nat_lt n size then Some (size - (n + 1)) else None

-- this many items, as a number of 64 bits: a count stands still at the largest
abbrev pub counted : ℕ → Reply
counted count = reply.Int (pos (min count 9223372036854775807))

-- the event of this name on the key of the words
abbrev pub list_note : List ℕ → List (List ℕ) → Note
list_note name words = note_on_key class.List name words
