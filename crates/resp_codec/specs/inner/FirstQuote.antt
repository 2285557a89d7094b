-- What was found by going over a line.
use Rattle.std.specs.Prelude.{◌≡◌, ℕ, ◌<◌, List, length, take, slice_index, true, false, Option, Some, None}
use Rattle.std.specs.List.{list_any}
use Rattle.resp_codec.specs.Inline.{is_quote}

-- the place of the first quote
abbrev pub IsFirstQuote : List ℕ → Option ℕ → Type 0
IsFirstQuote line None = list_any is_quote line ≡ false
IsFirstQuote line (Some place) = (place < length line)
    × (list_any is_quote (take place line) ≡ false) × (is_quote (slice_index line place) ≡ true)
