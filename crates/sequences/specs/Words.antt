-- Words of a request, by their places.
use Rattle.std.specs.Prelude.{ℕ, List, [], slice_index_or}

-- the word at this place, counted from 0, and behind the last word none
unfoldable pub word : ℕ → List (List ℕ) → List ℕ
word place words = slice_index_or words place []
