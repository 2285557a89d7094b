-- Where a line ends: at the first of some byte, or at CR LF.
use Rattle.std.specs.Prelude.{◌≡◌, ◌≢◌, ◌⊎◌, ℕ, ◌+◌, ◌<◌, ◌≤◌, List, ◌∷◌, ◌++◌, length, take, drop, slice_index, false, ◌==◌}
use Rattle.std.specs.List.{list_any}
use Rattle.resp_codec.specs.Inline.{IsLine}
use Rattle.resp_codec.specs.declared.line.LineEnd.{LineEnd}
use Rattle.resp_codec.specs.declared.line.LineEnd.TheVariants as found

-- this many bytes at the front are none of them this one, and no more than may stand before one
pub record IsSearched (sought count : ℕ) (bytes : List ℕ) : Type 0 where
  pub within : count ≤ length bytes
  pub near : count ≤ 65537
  pub none : list_any (λ byte. byte == sought) (take count bytes) ≡ false

-- and the search ends there: at such a byte, at the end of the bytes, or as far as one may stand
pub record IsSearchEnd (sought count : ℕ) (bytes : List ℕ) : Type 0 where
  pub searched : IsSearched sought count bytes
  pub there : count < length bytes → count < 65537 → slice_index bytes count ≡ sought

-- what was found at a place where CR LF is due
abbrev pub IsFound : List ℕ → ℕ → LineEnd → Type 0
IsFound bytes place found.Open = (length bytes ≤ place)
    ⊎ ((length bytes ≡ place + 1) × (slice_index bytes place ≡ 13))
IsFound bytes place found.There = (place + 2 ≤ length bytes) × (slice_index bytes place ≡ 13)
    × (slice_index bytes (place + 1) ≡ 10)
IsFound bytes place (found.Missing at) =
    ((at ≡ place) × (at < length bytes) × (slice_index bytes at ≢ 13))
    ⊎ ((at ≡ place + 1) × (at < length bytes) × (slice_index bytes place ≡ 13)
    × (slice_index bytes at ≢ 10))

-- an inline line of this many bytes stands before the first LF
pub record IsInlineLine (bytes : List ℕ) (end : ℕ) : Type 0 where
  pub within : end + 1 ≤ length bytes
  pub parts : bytes ≡ take end bytes ++ 10 ∷ drop (end + 1) bytes
  pub is_line : IsLine (take end bytes)
