-- Which items of a list are equal to one, and what is left without the first or the last of them.
use Rattle.std.specs.Prelude.{ℕ, zero, suc, Bool, List, [], ◌∷◌, ◌++◌, take, drop, reverse, if◌then◌else◌}
use Rattle.std.specs.Str.{bytes_eq}

-- the list without its first items that are equal to this one, `most` of them at most
abbrev pub without_first : ℕ → List ℕ → List (List ℕ) → List (List ℕ)
without_first most item [] = []
without_first zero item (x ∷ xs) = x ∷ xs
without_first (suc most) item (x ∷ xs) =
    if bytes_eq x item then without_first most item xs else x ∷ without_first (suc most) item xs

-- the same from the end
abbrev pub without_last : ℕ → List ℕ → List (List ℕ) → List (List ℕ)
without_last most item items = reverse (without_first most item (reverse items))

-- one step of a walk round a list: the first item is gone, or goes last
abbrev pub turned_list : Bool → List (List ℕ) → List (List ℕ)
turned_list gone items = if gone then drop 1 items else drop 1 items ++ take 1 items
