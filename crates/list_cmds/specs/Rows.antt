-- What each command on a list does to a key: one line a command, after the Redis command reference.
use Rattle.std.specs.Prelude.{ℕ, List, Option, None}
use Rattle.byte_text.specs.Number.{i64_of}
use Rattle.core_types.specs.Done.{Done, refuses, unless_refused}
use Rattle.sequences.specs.Words.{word}
use Rattle.core_types.specs.declared.refusal.Refusal.{Refusal}
use Rattle.core_types.specs.declared.refusal.Refusal.TheVariants as refusals
use Rattle.list_cmds.specs.declared.command.ListCmd.{ListCmd}
use Rattle.list_cmds.specs.declared.command.ListCmd.TheVariants as command
use Rattle.core_types.specs.Refusals.{no_number, or_else}
use Rattle.list_cmds.specs.Words.{held_items}
use Rattle.list_cmds.specs.Reading.{index, list_length, range}
use Rattle.list_cmds.specs.Adding.{push_back, push_front, set_item}
use Rattle.list_cmds.specs.Taking.{pop_back, pop_front, remove, trim}

-- for what the words alone are refused, whatever the key holds
abbrev pub refusal : ListCmd → List (List ℕ) → Option Refusal
refusal command.LPush words = None
refusal command.RPush words = None
refusal command.LPop words = None
refusal command.RPop words = None
refusal command.LLen words = None
refusal command.LIndex words = no_number (i64_of (word 2 words))
refusal command.LRange words =
    or_else (no_number (i64_of (word 2 words))) (no_number (i64_of (word 3 words)))
refusal command.LSet words = no_number (i64_of (word 2 words))
refusal command.LTrim words =
    or_else (no_number (i64_of (word 2 words))) (no_number (i64_of (word 3 words)))
refusal command.LRem words = no_number (i64_of (word 2 words))

-- what is done where the words are not refused, and the key holds this list or is not there
abbrev pub served : ListCmd → Option (List (List ℕ)) → List (List ℕ) → Done (List (List ℕ))
served command.LPush old words = push_front (held_items old) words
served command.RPush old words = push_back (held_items old) words
served command.LPop old words = pop_front (held_items old) words
served command.RPop old words = pop_back (held_items old) words
served command.LLen old words = list_length (held_items old)
served command.LIndex old words = index (held_items old) words
served command.LRange old words = range (held_items old) words
served command.LSet old words = set_item old words
served command.LTrim old words = trim old words
served command.LRem old words = remove (held_items old) words

-- a command on a key that holds this list, or is not there
abbrev pub row : ListCmd → Option (List (List ℕ)) → List (List ℕ) → Done (List (List ℕ))
row cmd old words = unless_refused (refusal cmd words) (served cmd old words)

-- a command on a key that holds another kind of value
abbrev pub other_row : ListCmd → List (List ℕ) → Done (List (List ℕ))
other_row cmd words = unless_refused (refusal cmd words) (refuses refusals.WrongType)
