-- Words with counts, in byte order.
use Rattle.std.specs.Prelude.{◌&&◌, ◌^◌, ℕ, Bool, true, false, nat_le, nat_lt, List, [], ◌∷◌, Option, Some, None, if◌then◌else◌}
use Rattle.std.specs.Cmp.Lexicographic.{slice_cmp}
use Rattle.std.specs.Ordering.{is_eq, is_lt, match_ordering, nat_cmp}
use Rattle.std.specs.declared.cmp.Ordering.{Ordering}
use Rattle.module_laws.specs.Words.{Bytes}

-- a word, and how often it was counted
pub record Counted : Type 0 where
  pub word : Bytes
  pub count : ℕ

-- byte order
abbrev pub word_order : Bytes → Bytes → Ordering
word_order = slice_cmp nat_cmp

abbrev pub is_word : Bytes → Bytes → Bool
is_word a b = is_eq (word_order a b)

-- from 1 to 2^63 - 1
abbrev pub is_count : ℕ → Bool
is_count n = nat_le 1 n && nat_lt n (2 ^ 63)

-- a word stands behind the one before it, where there is one
abbrev pub is_behind : Option Bytes → Bytes → Bool
is_behind None word = true
is_behind (Some last) word = is_lt (word_order last word)

-- the words rise in byte order, and each has a count
abbrev pub counts_rise : Option Bytes → List Counted → Bool
counts_rise last [] = true
counts_rise last (c ∷ cs) =
    is_behind last c.word && (is_count c.count && counts_rise (Some c.word) cs)

abbrev pub are_counts : List Counted → Bool
are_counts cs = counts_rise None cs

-- the same, and there is at least one word
abbrev pub some_counts : List Counted → Bool
some_counts [] = false
some_counts (c ∷ cs) = are_counts (c ∷ cs)

-- the last of these words, where there is one, or else the one before them
abbrev pub last_word : Option Bytes → List Counted → Option Bytes
last_word last [] = last
last_word last (c ∷ cs) = last_word (Some c.word) cs

-- the count of a word, where it has one
abbrev pub count_at : Bytes → List Counted → Option ℕ
count_at word [] = None
count_at word (c ∷ cs) = if is_word word c.word then Some c.count else count_at word cs

abbrev pub counted : Bytes → ℕ → Counted
counted word n = record { word = word; count = n }

-- the same words, but for one that has this count: in its place, or where byte order has it
abbrev pub with_count : Bytes → ℕ → List Counted → List Counted
with_count word n [] = counted word n ∷ []
with_count word n (c ∷ cs) =
    match_ordering (word_order word c.word) (counted word n ∷ c ∷ cs) (counted c.word n ∷ cs)
    (c ∷ with_count word n cs)

-- the same words, but for one
abbrev pub without_word : Bytes → List Counted → List Counted
without_word word [] = []
without_word word (c ∷ cs) = if is_word word c.word then cs else c ∷ without_word word cs
