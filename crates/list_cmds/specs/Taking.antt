-- LPOP, RPOP, LTRIM and LREM: they take items out of a list, and a list without items goes.
use Rattle.std.specs.Prelude.{ℕ, zero, suc, ℤ, pos, negsuc, ◌+◌, ◌-◌, ◌==◌, if◌then◌else◌, List, [], ◌∷◌, length, drop, take, slice_index_or, codes, Option, Some, None}
use Rattle.byte_text.specs.Number.{number_in}
use Rattle.core_types.specs.Cutting.{taken_range}
use Rattle.core_types.specs.Done.{Done, Change, answers, changes, own_words, del_note}
use Rattle.sequences.specs.Words.{word}
use Rattle.core_types.specs.Equal.{without_first, without_last}
use Rattle.core_types.specs.declared.reply.Reply.{Reply}
use Rattle.core_types.specs.declared.reply.Reply.TheVariants as reply
use Rattle.list_cmds.specs.Words.{counted, list_note}

-- the key is removed, and a second event tells of it
abbrev pub removes : Reply → List ℕ → List ℕ → List (List ℕ) → Done (List (List ℕ))
removes said name event words =
    record {
      change = Change.Goes;
      reply = said;
      effects = own_words name words ∷ [];
      notes = list_note event words ∷ del_note words ∷ [];
    }

-- these items are left of a list
abbrev pub leaves : List (List ℕ) → Reply → List ℕ → List ℕ → List (List ℕ) → Done (List (List ℕ))
leaves left said name event words =
    if length left == 0 then removes said name event words
    else changes (Change.Becomes left) said (own_words name words) (list_note event words)

-- the first item is answered, and goes
abbrev pub pop_front : List (List ℕ) → List (List ℕ) → Done (List (List ℕ))
pop_front items words =
    if length items == 0 then answers reply.Null
    else leaves (drop 1 items) (reply.Bulk (slice_index_or items 0 []))
    (codes "LPOP") (codes "lpop") words

-- the last one
abbrev pub pop_back : List (List ℕ) → List (List ℕ) → Done (List (List ℕ))
pop_back items words =
    if length items == 0 then answers reply.Null
    else leaves (take (length items - 1) items)
    (reply.Bulk (slice_index_or items (length items - 1) []))
    (codes "RPOP") (codes "rpop") words

-- the items stay from the one number to the other, by the rule of ranges
abbrev pub trim : Option (List (List ℕ)) → List (List ℕ) → Done (List (List ℕ))
trim None words = answers (reply.Simple (codes "OK"))
trim (Some items) words =
    leaves (taken_range items (number_in (word 2 words)) (number_in (word 3 words))) (reply.Simple (codes "OK"))
    (codes "LTRIM") (codes "ltrim") words

-- a list without items that are equal to this one: for a number above 0 the first of them, as many
-- as it says, for one below 0 the last, and for 0 all
abbrev pub without : ℤ → List ℕ → List (List ℕ) → List (List ℕ)
without (pos zero) item items = without_first (length items) item items
without (pos (suc n)) item items = without_first (suc n) item items
without (negsuc n) item items = without_last (n + 1) item items

-- these items are left, and it is answered how many went; where none did nothing changes
abbrev pub leaves_of : List (List ℕ) → List (List ℕ) → List (List ℕ) → Done (List (List ℕ))
leaves_of items left words =
    if length items == length left then answers (counted 0)
    else leaves left (counted (length items - length left)) (codes "LREM") (codes "lrem") words

abbrev pub remove : List (List ℕ) → List (List ℕ) → Done (List (List ℕ))
remove items words = leaves_of items (without (number_in (word 2 words)) (word 3 words) items) words
