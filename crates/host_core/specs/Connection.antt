-- The commands of a connection, after the Redis command reference. They change no key.
use Rattle.std.specs.Prelude.{ℕ, ℤ, pos, negsuc, List, length, codes, if◌then◌else◌, nat_eq, Option, Some, None}
use Rattle.byte_text.specs.Name.{same_name}
use Rattle.byte_text.specs.Number.{i64_of}
use Rattle.sequences.specs.Words.{word}
use Rattle.core_types.specs.Refusals.{refused, wrong_arity}
use Rattle.core_types.specs.declared.refusal.Refusal.TheVariants as refusal
use Rattle.core_types.specs.declared.reply.Reply.{Reply}
use Rattle.core_types.specs.declared.reply.Reply.TheVariants as reply
use Rattle.host_core.specs.declared.connection.ConnectionCmd.{ConnectionCmd}
use Rattle.host_core.specs.declared.connection.ConnectionCmd.TheVariants as connection
use Rattle.host_core.specs.Builtins.{known_commands}

-- PING by its number of words: alone, with what is to be sent back, or with more
abbrev pub pong : ℕ → List (List ℕ) → Reply
pong count words =
    if nat_eq count 1 then reply.Simple (codes "PONG") else
    (if nat_eq count 2 then reply.Bulk (word 1 words) else wrong_arity (codes "PING"))

-- database 0 alone is there
abbrev pub selected : Option ℤ → Reply
selected None = refused refusal.NotAnInteger
selected (Some (pos number)) =
    if nat_eq number 0 then reply.Simple (codes "OK") else refused refusal.DatabaseOutOfRange
selected (Some (negsuc number)) = refused refusal.DatabaseOutOfRange

-- COMMAND, where this number of commands is known
abbrev pub counted : ℕ → List ℕ → Reply
counted known what =
    if same_name what (codes "COUNT") then reply.Int (pos known) else refused refusal.Syntax

-- what a client is answered
abbrev pub connection_reply : ConnectionCmd → List (List ℕ) → Reply
connection_reply connection.Ping words = pong (length words) words
connection_reply connection.Echo words = reply.Bulk (word 1 words)
connection_reply connection.Select words = selected (i64_of (word 1 words))
connection_reply connection.Quit words = reply.Simple (codes "OK")
connection_reply connection.Command words = counted known_commands (word 1 words)
