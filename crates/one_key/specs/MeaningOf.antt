-- The meaning of a module whose commands each work on one key.
use Rattle.std.specs.Prelude.{[], ◌∷◌, List, Option, Some, None, if◌then◌else◌}
use Rattle.std.specs.Option.{option_map, unwrap_or}
use Rattle.core_types.specs.Done.{del_note, note_on_key}
use Rattle.core_types.specs.Keys.{value_at}
use Rattle.core_types.specs.declared.note.Note.{Note}
use Rattle.core_types.specs.declared.note.NoteClass.TheVariants as class
use Rattle.core_types.specs.declared.reply.Reply.{Reply}
use Rattle.sequences.specs.Words.{word}
use Rattle.module_laws.specs.Meaning.{Did, Meaning}
use Rattle.module_laws.specs.Plain.{answers_with, silent}
use Rattle.module_laws.specs.Replay.{own_value, with_after}
use Rattle.module_laws.specs.Told.{Seen}
use Rattle.module_laws.specs.Words.{Words, Saved}
use Rattle.module_laws.specs.declared.verdict.Verdict.{Verdict}
use Rattle.module_laws.specs.declared.verdict.Verdict.TheVariants as verdict
use Rattle.one_key.specs.KeyMeaning.{KeyChange, KeyMeaning}
use Rattle.one_key.specs.OwnWords.{is_write, own}

-- the event that tells of a key that is gone
abbrev pub gone_notes : Words → Option Saved → List Note
gone_notes words None = del_note words ∷ []
gone_notes words (Some items) = []

-- an event tells of a change, and another one of a key that is gone
abbrev pub change_notes : Words → KeyChange → List Note
change_notes words change =
    note_on_key class.Module change.event words ∷ gone_notes words change.left

-- the words that make a change again
abbrev pub effect_words : Words → KeyChange → Words
effect_words words change = unwrap_or change.effect words

module _ (m : KeyMeaning) (private : Saved) (seen : Seen) (words : Words) where
  -- this is replied, and the key is changed so or not at all
  abbrev pub replies_and : Reply → Option KeyChange → Did Verdict
  replies_and reply None = answers_with private (verdict.Say reply) seen
  replies_and reply (Some change) = record (answers_with private (verdict.Say reply) seen) {
    keys = with_after m.name (word 1 words) seen.keys change.left;
    effects = record { words = effect_words words change } ∷ [];
    notes = change_notes words change;
  }

  -- a command on a key that has this value or none, or no answer where it has another kind
  abbrev pub serves_on : Option (Option Saved) → Did Verdict
  serves_on None = answers_with private (verdict.Say (m.others words)) seen
  serves_on (Some old) =
      if is_write m.rows words
      then replies_and (m.writes old words).reply (m.writes old words).change
      else answers_with private (verdict.Say (m.reads old words)) seen

  -- a command on its key
  abbrev pub serves : Did Verdict
  serves = serves_on (own_value m.name (value_at seen.keys (word 1 words)))

-- what words make of a value or of none, where they are those of a command that writes
abbrev pub makes : KeyMeaning → Option Saved → Words → Option (Option Saved)
makes m old words =
    if is_write m.rows words then option_map (λ change. change.left) (m.writes old words).change
    else None

abbrev pub meaning_of : KeyMeaning → Meaning
meaning_of m = record (silent m.name m.version m.rows) {
  is_empty = m.is_empty;
  says = λ private seen words. serves m private seen (own words);
  after = λ old words. makes m old (own words);
  loads = m.loads;
}
