-- The commands on keys of any kind, after the Redis command reference: DEL, EXISTS, TYPE, RENAME,
-- DBSIZE, MGET and MSET.
use Rattle.std.specs.Prelude.{ℕ, pos, ◌%◌, ◌==◌, Bool, if◌then◌else◌, List, [], ◌∷◌, ◌++◌, length, map, drop, filter, codes, Option, Some, None, is_some}
use Rattle.std.specs.Str.{bytes_eq}
use Rattle.core_types.specs.Done.{own_words}
use Rattle.sequences.specs.Words.{word}
use Rattle.core_types.specs.Keys.{KeysOf, value_at, with_value, without, renamed, key_count}
use Rattle.core_types.specs.Answers.{several}
use Rattle.core_types.specs.Refusals.{wrong_arity}
use Rattle.core_types.specs.declared.note.Note.{Note}
use Rattle.core_types.specs.declared.note.NoteClass.TheVariants as class
use Rattle.core_types.specs.declared.refusal.Refusal.TheVariants as refusal
use Rattle.core_types.specs.declared.reply.Reply.{Reply}
use Rattle.core_types.specs.declared.reply.Reply.TheVariants as reply
use Rattle.core_types.specs.declared.value.Value.{Value}
use Rattle.core_types.specs.declared.value.Value.TheVariants as value
use Rattle.key_cmds.specs.Run.{Run, answers, native_in, refuses}

-- a key, and the string that it is to have
pub record Pair : Type 0 where
  pub key : List ℕ
  pub value : List ℕ

abbrev pub ok : Reply
ok = reply.Simple (codes "OK")

abbrev pub generic_note : List ℕ → List ℕ → Note
generic_note name key = record { class = class.Generic; name = name; key = key }

abbrev pub set_note : Pair → Note
set_note pair = record { class = class.String; name = codes "set"; key = pair.key }

-- the words two by two; a last one without another is left out
abbrev pub pairs_of : List (List ℕ) → List Pair
pairs_of (key ∷ value ∷ more) = record { key = key; value = value } ∷ pairs_of more
pairs_of _ = []

-- whether the last word has no other
abbrev pub is_odd : List (List ℕ) → Bool
is_odd words = length words % 2 == 1

-- what removing keys one after the other leaves, the keys that were there, and the modules' values
-- they had
pub record Removed (N : Type 0) : Type 0 where
  pub keys : KeysOf N
  pub gone : List (List ℕ)
  pub left : List N

module _ {N : Type 0} where
  abbrev pub is_there : KeysOf N → List ℕ → Bool
  is_there keys key = is_some (value_at keys key)

  -- ---- DEL

  -- one key goes, and then others: this is what it had
  abbrev pub goes_first : List ℕ → Option (Value N) → Removed N → Removed N
  goes_first key None more = more
  goes_first key (Some held) more =
      record { keys = more.keys; gone = key ∷ more.gone; left = native_in (Some held) ++ more.left }

  -- the named keys go, each that is there when its turn has come: a key that is named twice goes
  -- once
  abbrev pub removed : List (List ℕ) → KeysOf N → Removed N
  removed [] keys = record { keys = keys; gone = []; left = [] }
  removed (key ∷ more) keys = goes_first key (value_at keys key) (removed more (without keys key))

  -- where none went, nothing has changed
  abbrev pub deletes : Removed N → List (List ℕ) → Run N
  deletes after words =
      record {
        keys = after.keys;
        reply = reply.Int (pos (length after.gone));
        effects = (if length after.gone == 0 then [] else own_words (codes "DEL") words ∷ []);
        notes = map (generic_note (codes "del")) after.gone;
        left = after.left;
      }

  abbrev pub delete : KeysOf N → List (List ℕ) → Run N
  delete keys words = deletes (removed (drop 1 words) keys) words

  -- ---- EXISTS, TYPE and DBSIZE

  -- a key that is named twice counts twice
  abbrev pub exists : KeysOf N → List (List ℕ) → Run N
  exists keys words = answers
      (reply.Int (pos (length (filter (is_there keys) (drop 1 words))))) keys

  -- the name of a value's type, where this tells the names of the modules' types
  abbrev pub type_of : (N → List ℕ) → Option (Value N) → List ℕ
  type_of type_name None = codes "none"
  type_of type_name (Some (value.Str text)) = codes "string"
  type_of type_name (Some (value.List items)) = codes "list"
  type_of type_name (Some (value.Hash fields)) = codes "hash"
  type_of type_name (Some (value.Native native)) = type_name native

  abbrev pub tell_type : (N → List ℕ) → KeysOf N → List (List ℕ) → Run N
  tell_type type_name keys words =
      answers (reply.Simple (type_of type_name (value_at keys (word 1 words)))) keys

  abbrev pub count : KeysOf N → Run N
  count keys = answers (reply.Int (pos (key_count keys))) keys

  -- ---- RENAME

  -- one key's value goes to another, whose own leaves
  abbrev pub moves : List ℕ → List ℕ → KeysOf N → List (List ℕ) → Run N
  moves from to keys words =
      record {
        keys = renamed keys from to;
        reply = ok;
        effects = own_words (codes "RENAME") words ∷ [];
        notes = generic_note (codes "rename_from") from ∷ generic_note (codes "rename_to") to ∷ [];
        left = native_in (value_at keys to);
      }

  -- to its own name it changes nothing
  abbrev pub rename_there : List ℕ → List ℕ → KeysOf N → List (List ℕ) → Run N
  rename_there from to keys words = if bytes_eq from to then answers ok keys
      else moves from to keys words

  abbrev pub rename : KeysOf N → List (List ℕ) → Run N
  rename keys words =
      if is_there keys (word 1 words) then rename_there (word 1 words) (word 2 words) keys words
      else refuses refusal.NoSuchKey keys

  -- ---- MGET and MSET

  -- a key that is not there, or has no string, is answered by a null
  abbrev pub string_in : Option (Value N) → Reply
  string_in (Some (value.Str text)) = reply.Bulk text
  string_in _ = reply.Null

  abbrev pub get_each : KeysOf N → List (List ℕ) → Run N
  get_each keys words =
      answers (reply.Array (several
      (map (λ key. string_in (value_at keys key)) (drop 1 words)))) keys

  -- the keys after each pair was set, in order
  abbrev pub with_pairs : List Pair → KeysOf N → KeysOf N
  with_pairs [] keys = keys
  with_pairs (pair ∷ more) keys = with_pairs more (with_value keys pair.key (value.Str pair.value))

  -- the modules' values that leave by it
  abbrev pub left_by_pairs : List Pair → KeysOf N → List N
  left_by_pairs [] keys = []
  left_by_pairs (pair ∷ more) keys =
      native_in (value_at keys pair.key)
      ++ left_by_pairs more (with_value keys pair.key (value.Str pair.value))

  abbrev pub sets : List Pair → KeysOf N → List (List ℕ) → Run N
  sets pairs keys words =
      record {
        keys = with_pairs pairs keys;
        reply = ok;
        effects = own_words (codes "MSET") words ∷ [];
        notes = map set_note pairs;
        left = left_by_pairs pairs keys;
      }

  abbrev pub set_each : KeysOf N → List (List ℕ) → Run N
  set_each keys words =
      if is_odd (drop 1 words) then answers (wrong_arity (codes "MSET")) keys
      else sets (pairs_of (drop 1 words)) keys words
