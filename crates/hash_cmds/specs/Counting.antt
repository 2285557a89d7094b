-- HINCRBY: it adds to the number that a field holds.
use Rattle.std.specs.Prelude.{ℕ, ℤ, ◌+ℤ◌, if◌then◌else◌, List, codes, Option, Some, None}
use Rattle.std.specs.Fmt.{signed_decimal}
use Rattle.byte_text.specs.Number.{fits_i64, number_held, number_in}
use Rattle.core_types.specs.Done.{Done, Change, refuses, changes, own_words}
use Rattle.sequences.specs.Words.{word}
use Rattle.core_types.specs.Fields.{field_value, with_field}
use Rattle.core_types.specs.declared.field.Field.{Field}
use Rattle.core_types.specs.declared.refusal.Refusal.TheVariants as refusal
use Rattle.core_types.specs.declared.reply.Reply.TheVariants as reply
use Rattle.hash_cmds.specs.Words.{hash_note}

-- the field gets the decimal of the sum
abbrev pub becomes_number : List Field → ℤ → List (List ℕ) → Done (List Field)
becomes_number held sum words =
    changes
    (Change.Becomes (with_field held (record { name = word 2 words; value = signed_decimal sum })))
    (reply.Int sum) (own_words (codes "HINCRBY") words) (hash_note (codes "hincrby") words)

-- refused where the field holds no number, then where the sum has no 64 bits
abbrev pub adds : List Field → ℤ → Option ℤ → List (List ℕ) → Done (List Field)
adds held amount None words = refuses refusal.HashNotAnInteger
adds held amount (Some n) words =
    if fits_i64 (n +ℤ amount) then becomes_number held (n +ℤ amount) words
    else refuses refusal.Overflow

abbrev pub add : List Field → List (List ℕ) → Done (List Field)
add held words = adds held (number_in (word 3 words)) (number_held (field_value held (word 2 words))) words
