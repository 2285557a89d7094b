-- LPUSH, RPUSH and LSET: they put items into a list.
use Rattle.std.specs.Prelude.{ℕ, ◌++◌, List, length, drop, reverse, slice_set, codes, Option, Some, None}
use Rattle.byte_text.specs.Number.{number_in}
use Rattle.core_types.specs.Done.{Done, Change, changes, own_words, refuses}
use Rattle.sequences.specs.Words.{word}
use Rattle.core_types.specs.declared.refusal.Refusal.TheVariants as refusal
use Rattle.core_types.specs.declared.reply.Reply.TheVariants as reply
use Rattle.list_cmds.specs.Words.{counted, list_note, place_of}

-- the key holds these items from now on, and their number is answered
abbrev pub pushes : List (List ℕ) → List ℕ → List ℕ → List (List ℕ) → Done (List (List ℕ))
pushes items name event words =
    changes (Change.Becomes items) (counted (length items)) (own_words name words)
    (list_note event words)

-- one word after the other goes to the front, so that the last of them comes first
abbrev pub push_front : List (List ℕ) → List (List ℕ) → Done (List (List ℕ))
push_front items words =
    pushes (reverse (drop 2 words) ++ items) (codes "LPUSH") (codes "lpush") words

abbrev pub push_back : List (List ℕ) → List (List ℕ) → Done (List (List ℕ))
push_back items words = pushes (items ++ drop 2 words) (codes "RPUSH") (codes "rpush") words

-- the item at a place becomes the fourth word
abbrev pub set_at : List (List ℕ) → Option ℕ → List (List ℕ) → Done (List (List ℕ))
set_at items None words = refuses refusal.IndexOutOfRange
set_at items (Some place) words =
    changes (Change.Becomes (slice_set items place (word 3 words))) (reply.Simple (codes "OK"))
    (own_words (codes "LSET") words) (list_note (codes "lset") words)

abbrev pub set_item : Option (List (List ℕ)) → List (List ℕ) → Done (List (List ℕ))
set_item None words = refuses refusal.NoSuchKey
set_item (Some items) words = set_at items (place_of (length items) (number_in (word 2 words))) words
