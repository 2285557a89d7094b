-- wordcount: a key has words with counts.
use Rattle.std.specs.Prelude.{ℕ, suc, zero, ℤ, pos, ◌+◌, ◌^◌, Bool, true, false, nat_lt, List, [], ◌∷◌, map, Option, Some, None, if◌then◌else◌, codes}
use Rattle.std.specs.Char.{to_ascii_uppercase}
use Rattle.std.specs.Fmt.{decimal}
use Rattle.std.specs.Option.{is_none, option_map, unwrap_or}
use Rattle.std.specs.Str.{bytes_eq}
use Rattle.byte_text.specs.Number.{i64_of}
use Rattle.core_types.specs.CommandRow.{CommandRow, reading, writing}
use Rattle.sequences.specs.Words.{word}
use Rattle.core_types.specs.Keys.{Keys, Native, value_at}
use Rattle.core_types.specs.declared.note.Note.{Note}
use Rattle.core_types.specs.declared.note.NoteClass.TheVariants as class
use Rattle.core_types.specs.declared.refusal.Refusal.TheVariants as refusal
use Rattle.core_types.specs.declared.reply.Reply.{Reply}
use Rattle.core_types.specs.declared.reply.Reply.TheVariants as reply
use Rattle.core_types.specs.declared.tagged.Tagged.TheVariants as tagged
use Rattle.module_laws.specs.Meaning.{Did, Meaning}
use Rattle.module_laws.specs.Replay.{own_value}
use Rattle.module_laws.specs.Told.{Seen}
use Rattle.module_laws.specs.Words.{Bytes, Words, Saved}
use Rattle.module_laws.specs.declared.verdict.Verdict.{Verdict}
use Rattle.module_laws.specs.Plain.{silent}
use Rattle.mod_samples.specs.Changes.{changes, module_note, refuses, replies}
use Rattle.mod_samples.specs.CountParts.{count_loads, counts_of, saved_counts}
use Rattle.mod_samples.specs.Counts.{Counted, count_at, with_count, without_word}
use Rattle.mod_samples.specs.Words.{own}

abbrev pub count_name : Bytes
count_name = codes "wordcount"

abbrev pub add_name : Bytes
add_name = codes "WORDCOUNT.ADD"

abbrev pub set_name : Bytes
set_name = codes "WORDCOUNT.SET"

abbrev pub get_name : Bytes
get_name = codes "WORDCOUNT.GET"

abbrev pub drop_name : Bytes
drop_name = codes "WORDCOUNT.DROP"

abbrev pub count_rows : List CommandRow
count_rows = reading add_name (pos 3) ∷ writing set_name (pos 4) ∷ reading get_name (pos 3)
    ∷ writing drop_name (pos 3) ∷ []

-- words with counts as contracts see them
abbrev pub counts_shown : List Counted → Native
counts_shown cs = record { name = count_name; items = saved_counts cs }

-- the words of a value, or of none
abbrev pub counts_or_none : Option Saved → List Counted
counts_or_none None = []
counts_or_none (Some items) = counts_of items

-- the words of a key, none where it is not there; no answer where it has another kind
abbrev pub counts_at : Keys → Bytes → Option (List Counted)
counts_at keys key = option_map counts_or_none (own_value count_name (value_at keys key))

-- the same, where a key has another kind none
abbrev pub words_at : Keys → Bytes → List Counted
words_at keys key = unwrap_or (counts_at keys key) []

-- a key without words is none
abbrev pub value_of : List Counted → Option Saved
value_of [] = None
value_of (c ∷ cs) = Some (saved_counts (c ∷ cs))

-- a number from 1 on
abbrev pub positive : Option ℤ → Option ℕ
positive (Some (pos (suc n))) = Some (suc n)
positive _ = None

-- the words but for one, where it is there
abbrev pub dropped : Bytes → List Counted → Option (List Counted)
dropped word cs = option_map (λ n. without_word word cs) (count_at word cs)

-- the count that the words of a SET give
abbrev pub to_set : Words → Option ℕ
to_set (name ∷ key ∷ word ∷ text ∷ []) = if bytes_eq (map to_ascii_uppercase name) set_name
    then positive (i64_of text) else None
to_set _ = None

-- these are the words of a DROP
abbrev pub is_drop : Words → Bool
is_drop (name ∷ key ∷ word ∷ []) = bytes_eq (map to_ascii_uppercase name) drop_name
is_drop _ = false

abbrev pub edits_where : Option ℕ → Bool → Bytes → List Counted → Option (List Counted)
edits_where (Some n) is word cs = Some (with_count word n cs)
edits_where None true word cs = dropped word cs
edits_where None false word cs = None

-- What words of its own make of words with counts: a SET with a count, and a DROP of a word that is
-- there. No others make anything.
abbrev pub edits : List Counted → Words → Option (List Counted)
edits cs words = edits_where (to_set words) (is_drop words) (word 2 words) cs

abbrev pub count_after : Option Saved → Words → Option (Option Saved)
count_after old words = option_map value_of (edits (counts_or_none old) words)

-- the SET of a count
abbrev pub set_words : Bytes → Bytes → ℕ → Words
set_words key word n = set_name ∷ key ∷ word ∷ decimal n ∷ []

-- a word gets a count, by this SET
abbrev pub sets : Seen → Words → ℕ → List Counted → Reply → Did Verdict
sets seen words n cs said =
    changes count_name seen (record {
      made = value_of (with_count (word 2 words) n cs);
      effect = words;
      notes =
          module_note (codes "wordcount.set") (word 1 words) ∷ [];
    })
    said

-- ADD key word: its count rises by one, up to 2^63 - 1
abbrev pub adds : Seen → Bytes → Bytes → Option (List Counted) → Did Verdict
adds seen key word None = refuses seen refusal.WrongType
adds seen key word (Some cs) =
    let n = unwrap_or (count_at word cs) 0 + 1 in
    if nat_lt n (2 ^ 63) then sets seen (set_words key word n) n cs (reply.Int (pos n))
    else refuses seen refusal.Overflow

-- SET key word count
abbrev pub puts : Seen → Words → Option ℕ → Option (List Counted) → Did Verdict
puts seen words None cs = refuses seen refusal.NotAnInteger
puts seen words (Some n) None = refuses seen refusal.WrongType
puts seen words (Some n) (Some cs) = sets seen words n cs (reply.Simple (codes "OK"))

-- GET key word: its count, or 0
abbrev pub gets : Seen → Bytes → Option (List Counted) → Did Verdict
gets seen word None = refuses seen refusal.WrongType
gets seen word (Some cs) = replies seen (reply.Int (pos (unwrap_or (count_at word cs) 0)))

-- the notes of a drop: another one tells of a key that is gone
abbrev pub drop_notes : Bytes → Bool → List Note
drop_notes key true = module_note (codes "wordcount.drop") key
    ∷ record { class = class.Generic; name = codes "del"; key = key } ∷ []
drop_notes key false = module_note (codes "wordcount.drop") key ∷ []

-- a word that was there is dropped; the last one takes its key with it
abbrev pub drops_found : Seen → Words → Option (List Counted) → Did Verdict
drops_found seen words None = replies seen (reply.Int (pos 0))
drops_found seen words (Some left) =
    changes count_name seen (record {
      made = value_of left;
      effect = words;
      notes =
          drop_notes (word 1 words) (is_none (value_of left));
    })
    (reply.Int (pos 1))

-- DROP key word
abbrev pub drops : Seen → Words → Option (List Counted) → Did Verdict
drops seen words None = refuses seen refusal.WrongType
drops seen words (Some cs) = drops_found seen words (dropped (word 2 words) cs)

abbrev pub count_says : Seen → Words → Did Verdict
count_says seen words =
    let cs = counts_at seen.keys (word 1 words) in
    if bytes_eq (word 0 words) add_name then adds seen (word 1 words) (word 2 words) cs else
    (if bytes_eq (word 0 words) set_name
    then puts seen words (positive (i64_of (word 3 words))) cs else
    (if bytes_eq (word 0 words) drop_name then drops seen words cs else
    gets seen (word 2 words) cs))

-- no words
abbrev pub are_no_words : Saved → Bool
are_no_words (tagged.Number zero ∷ parts) = true
are_no_words _ = false

abbrev pub wordcount : Meaning
wordcount = record (silent count_name 0 count_rows) {
  is_empty = are_no_words;
  says = λ private seen words. count_says seen (own words);
  after = count_after;
  loads = count_loads;
}
