-- HDEL: it takes out fields.
use Rattle.std.specs.Prelude.{ℕ, pos, ◌-◌, ◌==◌, if◌then◌else◌, List, [], ◌∷◌, length, drop, codes}
use Rattle.core_types.specs.Done.{Done, Change, answers, del_note, own_words}
use Rattle.core_types.specs.Fields.{without_fields}
use Rattle.core_types.specs.declared.field.Field.{Field}
use Rattle.core_types.specs.declared.note.Note.{Note}
use Rattle.core_types.specs.declared.reply.Reply.TheVariants as reply
use Rattle.hash_cmds.specs.Words.{hash_note}

-- no empty hash is kept
abbrev pub left : List Field → Change (List Field)
left [] = Change.Goes
left (field ∷ rest) = Change.Becomes (field ∷ rest)

-- a key that is removed has an event of its own
abbrev pub remove_notes : List Field → List (List ℕ) → List Note
remove_notes [] words =
    hash_note (codes "hdel") words ∷ del_note words ∷ []
remove_notes (field ∷ rest) words = hash_note (codes "hdel") words ∷ []

abbrev pub removes : ℕ → List Field → List (List ℕ) → Done (List Field)
removes count rest words =
    record {
      change = left rest;
      reply = reply.Int (pos count);
      effects = own_words (codes "HDEL") words ∷ [];
      notes = remove_notes rest words;
    }

-- where no name is there, nothing changes
abbrev pub removed : ℕ → List Field → List (List ℕ) → Done (List Field)
removed count rest words =
    if count == 0 then answers (reply.Int (pos 0)) else removes count rest words

abbrev pub remove_fields : List Field → List (List ℕ) → Done (List Field)
remove_fields held words =
    let rest = without_fields held (drop 2 words) in removed (length held - length rest) rest words
