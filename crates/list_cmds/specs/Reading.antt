-- LLEN, LINDEX and LRANGE: they answer what a list has, and change nothing.
use Rattle.std.specs.Prelude.{ℕ, List, length, map, slice_get, Option, Some, None}
use Rattle.byte_text.specs.Number.{number_in}
use Rattle.sequences.specs.Words.{word}
use Rattle.core_types.specs.Answers.{bulk_or_null}
use Rattle.core_types.specs.Cutting.{taken_range}
use Rattle.core_types.specs.Done.{Done, answers}
use Rattle.core_types.specs.declared.part.Part.{Part}
use Rattle.core_types.specs.declared.part.Part.TheVariants as part
use Rattle.core_types.specs.declared.reply.Reply.{Reply}
use Rattle.core_types.specs.declared.reply.Reply.TheVariants as reply
use Rattle.list_cmds.specs.Words.{counted, place_of}

abbrev pub list_length : List (List ℕ) → Done (List (List ℕ))
list_length items = answers (counted (length items))

-- the item at a place, where there is such a place
abbrev pub item_at : List (List ℕ) → Option ℕ → Option (List ℕ)
item_at items None = None
item_at items (Some place) = slice_get items place

abbrev pub index : List (List ℕ) → List (List ℕ) → Done (List (List ℕ))
index items words =
    answers (bulk_or_null (item_at items (place_of (length items) (number_in (word 2 words)))))

-- these byte strings as the parts of replies
abbrev pub bulks : List (List ℕ) → List Part
bulks items = map part.Bulk items

-- an array of them
abbrev pub array_of : List (List ℕ) → Reply
array_of items = reply.Array (record { count = length items; parts = bulks items })

-- the items from the one number to the other, by the rule of ranges
abbrev pub range : List (List ℕ) → List (List ℕ) → Done (List (List ℕ))
range items words = answers (array_of (taken_range items (number_in (word 2 words)) (number_in (word 3 words))))
