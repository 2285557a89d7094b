-- hellotype: a key has a list of numbers in rising order.
use Rattle.std.specs.Prelude.{ℕ, zero, ℤ, pos, Bool, true, false, List, [], ◌∷◌, length, map, take, drop, Option, Some, None, if◌then◌else◌, codes}
use Rattle.std.specs.Char.{to_ascii_uppercase}
use Rattle.std.specs.Option.{option_map, unwrap_or}
use Rattle.std.specs.Str.{bytes_eq}
use Rattle.byte_text.specs.Number.{i64_of}
use Rattle.core_types.specs.CommandRow.{CommandRow, reading, writing}
use Rattle.sequences.specs.Words.{word}
use Rattle.core_types.specs.Keys.{Keys, Native, value_at}
use Rattle.core_types.specs.declared.part.Part.TheVariants as part
use Rattle.core_types.specs.declared.refusal.Refusal.TheVariants as refusal
use Rattle.core_types.specs.declared.reply.Reply.{Reply}
use Rattle.core_types.specs.declared.reply.Reply.TheVariants as reply
use Rattle.core_types.specs.declared.tagged.Tagged.TheVariants as tagged
use Rattle.module_laws.specs.Meaning.{Did, Meaning}
use Rattle.module_laws.specs.Replay.{own_value}
use Rattle.module_laws.specs.Told.{Seen}
use Rattle.module_laws.specs.Words.{Bytes, Words, Saved}
use Rattle.module_laws.specs.declared.verdict.Verdict.{Verdict}
use Rattle.module_laws.specs.Plain.{silent}
use Rattle.mod_samples.specs.Changes.{changes, count_reply, module_note, refuses, replies}
use Rattle.mod_samples.specs.HelloNumbers.{hello_loads, numbers_of, saved_numbers}
use Rattle.mod_samples.specs.Rising.{inserted}
use Rattle.mod_samples.specs.Words.{own}

abbrev pub hello_name : Bytes
hello_name = codes "hellotype"

abbrev pub insert_name : Bytes
insert_name = codes "HELLOTYPE.INSERT"

abbrev pub range_name : Bytes
range_name = codes "HELLOTYPE.RANGE"

abbrev pub len_name : Bytes
len_name = codes "HELLOTYPE.LEN"

abbrev pub hello_rows : List CommandRow
hello_rows = writing insert_name (pos 3) ∷ reading range_name (pos 4) ∷ reading len_name (pos 2) ∷ []

-- a list of numbers as contracts see it
abbrev pub shown : List ℤ → Native
shown ns = record { name = hello_name; items = saved_numbers ns }

-- the numbers of a value, or of none
abbrev pub numbers_or_none : Option Saved → List ℤ
numbers_or_none None = []
numbers_or_none (Some items) = numbers_of items

-- the numbers of a key, none where it is not there; no answer where it has another kind
abbrev pub numbers_at : Keys → Bytes → Option (List ℤ)
numbers_at keys key = option_map numbers_or_none (own_value hello_name (value_at keys key))

-- the number that the words of an INSERT insert
abbrev pub to_insert : Words → Option ℤ
to_insert (name ∷ key ∷ text ∷ []) =
    if bytes_eq (map to_ascii_uppercase name) insert_name then i64_of text else None
to_insert _ = None

-- An INSERT makes of a value, or of none, one with a number more. No other words make anything.
abbrev pub hello_after : Option Saved → Words → Option (Option Saved)
hello_after old words =
    option_map (λ n. Some (saved_numbers (inserted n (numbers_or_none old)))) (to_insert words)

-- the same, where a key has another kind none
abbrev pub list_at : Keys → Bytes → List ℤ
list_at keys key = unwrap_or (numbers_at keys key) []

-- INSERT key number: the list gets the number, and the reply is its new length
abbrev pub inserts : Seen → Words → Option ℤ → Option (List ℤ) → Did Verdict
inserts seen words None ns = refuses seen refusal.NotAnInteger
inserts seen words (Some n) None = refuses seen refusal.WrongType
inserts seen words (Some n) (Some ns) =
    changes hello_name seen (record {
      made = Some (saved_numbers (inserted n ns));
      effect = words;
      notes =
          module_note (codes "hellotype.insert") (word 1 words) ∷ [];
    })
    (count_reply (length (inserted n ns)))

-- numbers as an array
abbrev pub number_array : List ℤ → Reply
number_array ns = reply.Array (record { count = length ns; parts = map part.Int ns })

-- a number that is not negative
abbrev pub natural : Option ℤ → Option ℕ
natural (Some (pos n)) = Some n
natural _ = None

-- RANGE key first count: at most this many numbers, from that place on
abbrev pub ranges : Seen → Option ℕ → Option ℕ → Option (List ℤ) → Did Verdict
ranges seen (Some first) (Some count) (Some ns) =
    replies seen (number_array (take count (drop first ns)))
ranges seen (Some first) (Some count) None = refuses seen refusal.WrongType
ranges seen _ _ ns = refuses seen refusal.NotAnInteger

-- LEN key
abbrev pub lengths : Seen → Option (List ℤ) → Did Verdict
lengths seen (Some ns) = replies seen (count_reply (length ns))
lengths seen None = refuses seen refusal.WrongType

abbrev pub hello_says : Seen → Words → Did Verdict
hello_says seen words =
    let ns = numbers_at seen.keys (word 1 words) in
    if bytes_eq (word 0 words) insert_name then inserts seen words (i64_of (word 2 words)) ns else
    (if bytes_eq (word 0 words) range_name
    then ranges seen (natural (i64_of (word 2 words))) (natural (i64_of (word 3 words))) ns
    else lengths seen ns)

-- the list without numbers
abbrev pub is_empty_list : Saved → Bool
is_empty_list (tagged.Number zero ∷ parts) = true
is_empty_list _ = false

abbrev pub hellotype : Meaning
hellotype = record (silent hello_name 1 hello_rows) {
  is_empty = is_empty_list;
  says = λ private seen words. hello_says seen (own words);
  after = hello_after;
  loads = hello_loads;
}
