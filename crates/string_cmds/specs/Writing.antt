-- APPEND and SETRANGE: they write into a string.
use Rattle.std.specs.Prelude.{ℕ, pos, ◌+◌, ◌-◌, ◌++◌, ◌==◌, ◌&&◌, nat_lt, nat_le, max, if◌then◌else◌, List, [], length, map, slice_index, codes, Option, Some, None}
use Rattle.std.specs.List.{range_with_len}
use Rattle.byte_text.specs.Number.{number_in}
use Rattle.core_types.specs.Done.{Done, Change, answers, refuses, changes, own_words}
use Rattle.sequences.specs.Words.{word}
use Rattle.core_types.specs.Keyspace.{longest}
use Rattle.core_types.specs.declared.refusal.Refusal.TheVariants as refusal
use Rattle.core_types.specs.declared.reply.Reply.TheVariants as reply
use Rattle.string_cmds.specs.Words.{offset_of, string_note}

-- the key holds these bytes from now on, and their number is answered
abbrev pub writes : List ℕ → List ℕ → List ℕ → List (List ℕ) → Done (List ℕ)
writes bytes name event words =
    changes (Change.Becomes bytes) (reply.Int (pos (length bytes)))
    (own_words name words) (string_note event words)

-- no string is made that would be longer than the limit
abbrev pub within_limit : ℕ → Done (List ℕ) → Done (List ℕ)
within_limit size done = if nat_lt longest size then refuses refusal.TooLong else done

abbrev pub append_to : List ℕ → List (List ℕ) → Done (List ℕ)
append_to held words =
    within_limit (length held + length (word 2 words))
    (writes (held ++ word 2 words) (codes "APPEND") (codes "append") words)

-- no bytes change nothing where there is a string, and make an empty one where there is none
abbrev pub append : Option (List ℕ) → List (List ℕ) → Done (List ℕ)
append None words = append_to [] words
append (Some held) words =
    if length (word 2 words) == 0
    then answers (reply.Int (pos (length held))) else append_to held words

-- the byte at a place of a string over which a piece is laid: the piece's, or the string's, or 0
-- where it has none
abbrev pub byte_over : List ℕ → ℕ → List ℕ → ℕ → ℕ
byte_over held offset piece place =
    if nat_le offset place && nat_lt place (offset + length piece)
    then slice_index piece (place - offset) else slice_index held place

-- a string with a piece laid over it from an offset on, as long as is needed
unfoldable pub laid_over : List ℕ → ℕ → List ℕ → List ℕ
laid_over held offset piece =
    map (byte_over held offset piece) (range_with_len 0 (max (length held) (offset + length piece)))

abbrev pub lay_over : List ℕ → ℕ → List (List ℕ) → Done (List ℕ)
lay_over held offset words =
    within_limit (offset + length (word 3 words))
    (writes (laid_over held offset (word 3 words)) (codes "SETRANGE") (codes "setrange") words)

-- no bytes change nothing
abbrev pub set_range : List ℕ → List (List ℕ) → Done (List ℕ)
set_range held words =
    if length (word 3 words) == 0 then answers (reply.Int (pos (length held)))
    else lay_over held (offset_of (number_in (word 2 words))) words
