-- What a command of a module does that changes its key.
use Rattle.std.specs.Prelude.{ℕ, ◌-◌, ◌^◌, pos, min, [], ◌∷◌, ◌++◌, List, Option}
use Rattle.sequences.specs.Words.{word}
use Rattle.core_types.specs.Refusals.{refused}
use Rattle.core_types.specs.declared.note.Note.{Note}
use Rattle.core_types.specs.declared.note.NoteClass.TheVariants as class
use Rattle.core_types.specs.declared.refusal.Refusal.{Refusal}
use Rattle.core_types.specs.declared.reply.Reply.{Reply}
use Rattle.core_types.specs.declared.reply.Reply.TheVariants as reply
use Rattle.module_laws.specs.Meaning.{Did}
use Rattle.module_laws.specs.Replay.{with_after}
use Rattle.module_laws.specs.Told.{Seen, Told}
use Rattle.module_laws.specs.Words.{Bytes, Words, Saved}
use Rattle.module_laws.specs.declared.verdict.Verdict.{Verdict}
use Rattle.module_laws.specs.declared.verdict.Verdict.TheVariants as verdict
use Rattle.module_laws.specs.Plain.{answers_only}

-- nothing changes, and this is replied
abbrev pub replies : Seen → Reply → Did Verdict
replies seen said = answers_only (verdict.Say said) seen

-- nothing changes, and the reply is an error
abbrev pub refuses : Seen → Refusal → Did Verdict
refuses seen refusal = replies seen (refused refusal)

-- how many there are, as a reply; the type of a reply holds 63 bits
abbrev pub count_reply : ℕ → Reply
count_reply count = reply.Int (pos (min count (2 ^ 63 - 1)))

-- the note of a module on a key
abbrev pub module_note : Bytes → Bytes → Note
module_note name key = record { class = class.Module; name = name; key = key }

-- what becomes of a key: a value or none is made of it, by this effect, which names it behind its
-- own name, and these notes tell of it
pub record Change : Type 0 where
  pub made : Option Saved
  pub effect : Words
  pub notes : List Note

-- the key of a module of this name is left so, and this is replied
abbrev pub changes : Bytes → Seen → Change → Reply → Did Verdict
changes name seen change said = record (answers_only (verdict.Say said) seen) {
  keys = with_after name (word 1 change.effect) seen.keys change.made;
  effects = record { words = change.effect } ∷ [];
  notes = change.notes;
}

-- the key is left so, and nothing else is done
abbrev pub leaves : Bytes → Seen → Bytes → Option Saved → Did (Unit {0})
leaves name seen key made =
    record (answers_only tt seen) { keys = with_after name key seen.keys made }

-- notes were added
abbrev pub with_notes : List Note → Told → Told
with_notes notes told = record told { notes = told.notes ++ notes }
