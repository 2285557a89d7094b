-- HSET, HMSET and HSETNX: they put fields.
use Rattle.std.specs.Prelude.{ℕ, pos, ◌-◌, if◌then◌else◌, List, length, drop, codes, is_some}
use Rattle.core_types.specs.Done.{Done, Change, answers, changes, own_words}
use Rattle.sequences.specs.Words.{word}
use Rattle.core_types.specs.Fields.{field_value, with_fields}
use Rattle.core_types.specs.declared.field.Field.{Field}
use Rattle.core_types.specs.declared.reply.Reply.{Reply}
use Rattle.core_types.specs.declared.reply.Reply.TheVariants as reply
use Rattle.hash_cmds.specs.Words.{hash_note, pairs}

-- the fields with the pairs behind the key, one put after the other
abbrev pub with_pairs : List Field → List (List ℕ) → List Field
with_pairs held words = with_fields held (pairs (drop 2 words))

-- the pairs are put, by HSET under whatever name
abbrev pub sets : List Field → Reply → List (List ℕ) → Done (List Field)
sets held said words =
    changes (Change.Becomes (with_pairs held words)) said (own_words (codes "HSET") words)
    (hash_note (codes "hset") words)

-- the number of fields that were not there is answered
abbrev pub set_fields : List Field → List (List ℕ) → Done (List Field)
set_fields held words =
    sets held (reply.Int (pos (length (with_pairs held words) - length held))) words

abbrev pub set_if_absent : List Field → List (List ℕ) → Done (List Field)
set_if_absent held words =
    if is_some (field_value held (word 2 words)) then answers (reply.Int (pos 0))
    else sets held (reply.Int (pos 1)) words
