-- What each command on a hash does to a key: one line a command, after the Redis command
-- reference.
use Rattle.std.specs.Prelude.{ℕ, List, codes, Option, None}
use Rattle.byte_text.specs.Number.{i64_of}
use Rattle.core_types.specs.Done.{Done, refuses}
use Rattle.sequences.specs.Words.{word}
use Rattle.core_types.specs.declared.field.Field.{Field}
use Rattle.core_types.specs.declared.refusal.Refusal.TheVariants as refusals
use Rattle.core_types.specs.declared.reply.Reply.{Reply}
use Rattle.core_types.specs.declared.reply.Reply.TheVariants as reply
use Rattle.hash_cmds.specs.declared.command.HashCmd.{HashCmd}
use Rattle.hash_cmds.specs.declared.command.HashCmd.TheVariants as command
use Rattle.hash_cmds.specs.declared.reading.Shown.TheVariants as shown
use Rattle.hash_cmds.specs.Words.{fields_held, no_number, no_pairs, unless_wrong}
use Rattle.hash_cmds.specs.Reading.{count_fields, exists, get, get_each, show_fields, value_length}
use Rattle.hash_cmds.specs.Setting.{set_fields, set_if_absent, sets}
use Rattle.hash_cmds.specs.Removing.{remove_fields}
use Rattle.hash_cmds.specs.Counting.{add}

-- with what error the words alone are refused, whatever the key holds
abbrev pub refusal : HashCmd → List (List ℕ) → Option Reply
refusal command.HSet words = no_pairs (codes "HSET") words
refusal command.HMSet words = no_pairs (codes "HMSET") words
refusal command.HIncrBy words = no_number (i64_of (word 3 words))
refusal _ words = None

-- what is done where the words are not refused, and the key holds these fields
abbrev pub served : HashCmd → List Field → List (List ℕ) → Done (List Field)
served command.HSet held words = set_fields held words
served command.HMSet held words = sets held (reply.Simple (codes "OK")) words
served command.HSetNx held words = set_if_absent held words
served command.HGet held words = get held words
served command.HMGet held words = get_each held words
served command.HDel held words = remove_fields held words
served command.HLen held words = count_fields held
served command.HExists held words = exists held words
served command.HStrLen held words = value_length held words
served command.HKeys held words = show_fields shown.Names held
served command.HVals held words = show_fields shown.Values held
served command.HGetAll held words = show_fields shown.Both held
served command.HIncrBy held words = add held words

-- a command on a key that holds these fields, or is not there, which is read as no fields
abbrev pub row : HashCmd → Option (List Field) → List (List ℕ) → Done (List Field)
row cmd old words = unless_wrong (refusal cmd words) (served cmd (fields_held old) words)

-- a command on a key that holds another kind of value
abbrev pub other_row : HashCmd → List (List ℕ) → Done (List Field)
other_row cmd words = unless_wrong (refusal cmd words) (refuses refusals.WrongType)
