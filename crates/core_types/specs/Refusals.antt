-- The errors that a command is refused with.
use Rattle.std.specs.Prelude.{◌≡◌, ℕ, ℤ, List, ◌++◌, map, take, codes, Option, Some, None}
use Rattle.std.specs.Char.{to_ascii_lowercase}
use Rattle.core_types.specs.Printable.{printable}
use Rattle.core_types.specs.declared.refusal.Refusal.{Refusal}
use Rattle.core_types.specs.declared.refusal.Refusal.TheVariants as refusals
use Rattle.core_types.specs.declared.reply.Reply.{Reply}
use Rattle.core_types.specs.declared.reply.Reply.TheVariants as replies

abbrev pub refusal_text : Refusal → List ℕ
refusal_text refusals.WrongType =
    codes "WRONGTYPE Operation against a key holding the wrong kind of value"
refusal_text refusals.NotAnInteger = codes "ERR value is not an integer or out of range"
refusal_text refusals.HashNotAnInteger = codes "ERR hash value is not an integer"
refusal_text refusals.Overflow = codes "ERR increment or decrement would overflow"
refusal_text refusals.DecrementOverflow = codes "ERR decrement would overflow"
refusal_text refusals.NoSuchKey = codes "ERR no such key"
refusal_text refusals.IndexOutOfRange = codes "ERR index out of range"
refusal_text refusals.OffsetOutOfRange = codes "ERR offset is out of range"
refusal_text refusals.DatabaseOutOfRange = codes "ERR DB index is out of range"
refusal_text refusals.Syntax = codes "ERR syntax error"
refusal_text refusals.TooLong = codes "ERR string exceeds maximum allowed size (536870912 bytes)"
refusal_text refusals.NotAKeyCommand = codes "ERR modules may call built-in key commands only"

abbrev pub refused : Refusal → Reply
refused refusal = replies.Error (refusal_text refusal)

-- a reply that is an error
abbrev pub IsRefusal : Reply → Type 0
IsRefusal said = (text : List ℕ) × (said ≡ replies.Error text)

-- a word is refused that writes no number
abbrev pub no_number : Option ℤ → Option Refusal
no_number None = Some refusals.NotAnInteger
no_number (Some n) = None

-- the first refusal, or where there is none the second
abbrev pub or_else : Option Refusal → Option Refusal → Option Refusal
or_else None second = second
or_else (Some first) second = Some first

-- of a command by its name, in any case of letters
abbrev pub wrong_arity : List ℕ → Reply
wrong_arity name =
    replies.Error (map printable
    (codes "ERR wrong number of arguments for '" ++ map to_ascii_lowercase name ++ codes "' command"))

abbrev pub invalid_expire : List ℕ → Reply
invalid_expire name =
    replies.Error (map printable
    (codes "ERR invalid expire time in '" ++ map to_ascii_lowercase name ++ codes "' command"))

-- of the name as it came, of which the first 128 bytes are told
abbrev pub unknown_command : List ℕ → Reply
unknown_command name =
    replies.Error (map printable (codes "ERR unknown command '" ++ take 128 name ++ codes "'"))
