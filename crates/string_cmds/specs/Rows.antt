-- What each command on a string does to a key: one line a command, after the Redis command
-- reference.
use Rattle.std.specs.Prelude.{ℕ, pos, negsuc, neg_ℤ, true, List, drop, Option, None, is_some}
use Rattle.byte_text.specs.Number.{i64_of, number_in, number_held}
use Rattle.core_types.specs.Done.{Done, refuses, unless_refused}
use Rattle.sequences.specs.Words.{word}
use Rattle.core_types.specs.declared.refusal.Refusal.{Refusal}
use Rattle.core_types.specs.declared.refusal.Refusal.TheVariants as refusals
use Rattle.string_cmds.specs.declared.command.StringCmd.{StringCmd}
use Rattle.string_cmds.specs.declared.command.StringCmd.TheVariants as command
use Rattle.core_types.specs.Refusals.{no_number, or_else}
use Rattle.string_cmds.specs.Words.{held_bytes, no_offset}
use Rattle.core_types.specs.Answers.{bulk_or_null}
use Rattle.string_cmds.specs.Reading.{get, string_length, get_range}
use Rattle.string_cmds.specs.Setting.{condition_of, no_condition, set_where, set_if_absent, sets}
use Rattle.string_cmds.specs.Writing.{append, set_range}
use Rattle.string_cmds.specs.Counting.{adds}

-- for what the words alone are refused, whatever the key holds
abbrev pub refusal : StringCmd → List (List ℕ) → Option Refusal
refusal command.Get words = None
refusal command.Set words = no_condition (condition_of (drop 3 words))
refusal command.SetNx words = None
refusal command.GetSet words = None
refusal command.Append words = None
refusal command.StrLen words = None
refusal command.GetRange words =
    or_else (no_number (i64_of (word 2 words))) (no_number (i64_of (word 3 words)))
refusal command.SetRange words = no_offset (i64_of (word 2 words))
refusal command.Incr words = None
refusal command.Decr words = None
refusal command.IncrBy words = no_number (i64_of (word 2 words))
refusal command.DecrBy words = no_number (i64_of (word 2 words))

-- what is done where the words are not refused, and the key holds this string or is not there
abbrev pub served : StringCmd → Option (List ℕ) → List (List ℕ) → Done (List ℕ)
served command.Get old words = get old
served command.Set old words = set_where (condition_of (drop 3 words)) (is_some old) words
served command.SetNx old words = set_if_absent (is_some old) words
served command.GetSet old words = sets (bulk_or_null old) words
served command.Append old words = append old words
served command.StrLen old words = string_length (held_bytes old)
served command.GetRange old words = get_range (held_bytes old) words
served command.SetRange old words = set_range (held_bytes old) words
served command.Incr old words = adds (pos 1) (number_held old) words
served command.Decr old words = adds (negsuc 0) (number_held old) words
served command.IncrBy old words = adds (number_in (word 2 words)) (number_held old) words
served command.DecrBy old words = adds (neg_ℤ (number_in (word 2 words))) (number_held old) words

-- where the key holds a value of another kind: SET and SETNX alone take it
abbrev pub served_other : StringCmd → List (List ℕ) → Done (List ℕ)
served_other command.Set words = set_where (condition_of (drop 3 words)) true words
served_other command.SetNx words = set_if_absent true words
served_other _ words = refuses refusals.WrongType

-- a command on a key that holds this string, or is not there
abbrev pub row : StringCmd → Option (List ℕ) → List (List ℕ) → Done (List ℕ)
row cmd old words = unless_refused (refusal cmd words) (served cmd old words)

-- a command on a key that holds another kind of value
abbrev pub other_row : StringCmd → List (List ℕ) → Done (List ℕ)
other_row cmd words = unless_refused (refusal cmd words) (served_other cmd words)
