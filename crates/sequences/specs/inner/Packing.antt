-- Words one behind the other in one list of bytes, cut at the ends of the words.
use Rattle.std.specs.Prelude.{ℕ, ◌≤◌, List, [], ◌∷◌, drop, slice_range}
use Rattle.sequences.specs.Drafts.{DraftWords}

-- the words, of which the first begins at `start` and each further one where the one before it ends
abbrev pub words_from : ℕ → List ℕ → List ℕ → List (List ℕ)
words_from start bytes [] = []
words_from start bytes (end ∷ ends) = slice_range bytes start end ∷ words_from end bytes ends

-- where the last word ends, or `start` where there is none
abbrev pub last_end : ℕ → List ℕ → ℕ
last_end start [] = start
last_end start (end ∷ ends) = last_end end ends

-- the words, and what stands behind the last of them
abbrev pub cut_at : List ℕ → List ℕ → DraftWords
cut_at bytes ends = record { words = words_from 0 bytes ends; tail = drop (last_end 0 ends) bytes }

-- the ends rise, from `low` on, and none is above `top`
abbrev pub Rises : ℕ → ℕ → List ℕ → Type 0
Rises low top [] = low ≤ top
Rises low top (end ∷ ends) = (low ≤ end) × Rises end top ends
