-- INCR, DECR, INCRBY and DECRBY: they add to the number that a key holds.
use Rattle.std.specs.Prelude.{ℕ, ℤ, ◌+ℤ◌, if◌then◌else◌, List, [], ◌∷◌, codes, Option, Some, None}
use Rattle.std.specs.Fmt.{signed_decimal}
use Rattle.byte_text.specs.Number.{fits_i64}
use Rattle.core_types.specs.Done.{Done, Change, refuses, changes}
use Rattle.sequences.specs.Words.{word}
use Rattle.core_types.specs.declared.effect.Effect.{Effect}
use Rattle.core_types.specs.declared.refusal.Refusal.TheVariants as refusal
use Rattle.core_types.specs.declared.reply.Reply.TheVariants as reply
use Rattle.string_cmds.specs.Words.{string_note}

-- `INCRBY k amount`
abbrev pub add_effect : ℤ → List (List ℕ) → Effect
add_effect amount words =
    record { words = codes "INCRBY" ∷ word 1 words ∷ signed_decimal amount ∷ [] }

abbrev pub becomes_number : ℤ → ℤ → List (List ℕ) → Done (List ℕ)
becomes_number sum amount words =
    changes (Change.Becomes (signed_decimal sum)) (reply.Int sum) (add_effect amount words)
    (string_note (codes "incrby") words)

-- refused where the key holds no number, then where the amount has no 64 bits, then where the sum
-- has none
abbrev pub adds : ℤ → Option ℤ → List (List ℕ) → Done (List ℕ)
adds amount None words = refuses refusal.NotAnInteger
adds amount (Some n) words =
    if fits_i64 amount
    then (if fits_i64 (n +ℤ amount)
    then becomes_number (n +ℤ amount) amount words else refuses refusal.Overflow)
    else refuses refusal.DecrementOverflow
