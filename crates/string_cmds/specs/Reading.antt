-- GET, STRLEN and GETRANGE: they answer what a key holds, and change nothing.
use Rattle.std.specs.Prelude.{ℕ, pos, List, length, Option}
use Rattle.byte_text.specs.Number.{number_in}
use Rattle.sequences.specs.Words.{word}
use Rattle.core_types.specs.Answers.{bulk_or_null}
use Rattle.core_types.specs.Cutting.{taken_range}
use Rattle.core_types.specs.Done.{Done, answers}
use Rattle.core_types.specs.declared.reply.Reply.TheVariants as reply

abbrev pub get : Option (List ℕ) → Done (List ℕ)
get old = answers (bulk_or_null old)

abbrev pub string_length : List ℕ → Done (List ℕ)
string_length held = answers (reply.Int (pos (length held)))

-- the bytes from the one number to the other, by the rule of ranges
abbrev pub get_range : List ℕ → List (List ℕ) → Done (List ℕ)
get_range held words = answers (reply.Bulk (taken_range held (number_in (word 2 words)) (number_in (word 3 words))))
