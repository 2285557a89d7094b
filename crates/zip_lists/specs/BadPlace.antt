-- What is wrong with bytes that are no ziplist: each bad place, and the first.
use Rattle.std.specs.Prelude.{ℕ, ◌≡◌, ◌≢◌, ◌⊎◌, ◌+◌, ◌<◌, ◌≤◌, List, ◌∷◌, ◌++◌, length}
use Rattle.zip_lists.specs.Entry.{Previous, IsPrevious, previous_bytes, told}
use Rattle.zip_lists.specs.Entry.{Content, IsContent, content_bytes, Entry, IsEntry, entry_bytes}
use Rattle.zip_lists.specs.Ziplist.{header_size, end_mark, total_of, last_of, count_of}
use Rattle.zip_lists.specs.Ziplist.{place_behind, last_start, last_size, IsCount, Stands}

-- More bytes would make these an entry.
pub record IsBegun (rest : List ℕ) : Type 0 where
  pub entry : Entry
  pub more : List ℕ
  pub is_entry : IsEntry entry
  pub missing : 0 < length more
  pub whole : entry_bytes entry ≡ rest ++ more

-- No item has this encoding byte.
abbrev pub IsUnknown : ℕ → Type 0
IsUnknown mark =
    (content : Content) (more : List ℕ) → IsContent content → content_bytes content ≢ mark ∷ more

-- the total is there, and is another than that of all bytes
pub record WrongTotal (bytes : List ℕ) (place : ℕ) : Type 0 where
  pub there : 4 ≤ length bytes
  pub other : total_of bytes ≢ length bytes
  pub place_is : place ≡ 0

-- the entries have their end, and the last of them begins elsewhere than is told
pub record WrongLast (bytes : List ℕ) (place : ℕ) : Type 0 where
  pub entries : List Entry
  pub after : List ℕ
  pub ends : Stands bytes entries (end_mark ∷ after)
  pub other : last_of bytes ≢ last_start entries
  pub place_is : place ≡ 4

-- the entries have their end, and their number is another than is told
pub record WrongCount (bytes : List ℕ) (place : ℕ) : Type 0 where
  pub entries : List Entry
  pub after : List ℕ
  pub ends : Stands bytes entries (end_mark ∷ after)
  pub other : ¬ IsCount (count_of bytes) (length entries)
  pub place_is : place ≡ 8

-- behind whole entries a length is told that is not the one of the entry before
pub record WrongPrevious (bytes : List ℕ) (place : ℕ) : Type 0 where
  pub entries : List Entry
  pub previous : Previous
  pub more : List ℕ
  pub is_previous : IsPrevious previous
  pub stands : Stands bytes entries (previous_bytes previous ++ more)
  pub other : told previous ≢ last_size 0 entries
  pub place_is : place ≡ place_behind entries

-- behind whole entries and such a length stands an encoding byte that no item has
pub record WrongEncoding (bytes : List ℕ) (place : ℕ) : Type 0 where
  pub entries : List Entry
  pub previous : Previous
  pub mark : ℕ
  pub more : List ℕ
  pub is_previous : IsPrevious previous
  pub unknown : IsUnknown mark
  pub stands : Stands bytes entries (previous_bytes previous ++ mark ∷ more)
  pub place_is : place ≡ place_behind entries + length (previous_bytes previous)

-- a byte stands behind the end mark
pub record IsTrailing (bytes : List ℕ) (place : ℕ) : Type 0 where
  pub entries : List Entry
  pub before : List ℕ
  pub byte : ℕ
  pub more : List ℕ
  pub ends : Stands bytes entries (end_mark ∷ (before ++ byte ∷ more))
  pub place_is : place ≡ place_behind entries + 1 + length before

-- a part of an entry stands behind whole entries, or nothing
pub record IsCut (bytes : List ℕ) : Type 0 where
  pub entries : List Entry
  pub rest : List ℕ
  pub begun : IsBegun rest
  pub stands : Stands bytes entries rest

-- A byte is needed that is not there.
pub record IsMissing (bytes : List ℕ) (place : ℕ) : Type 0 where
  pub short : (length bytes < header_size) ⊎ IsCut bytes
  pub place_is : place ≡ length bytes

-- This place is bad.
pub data IsBad (bytes : List ℕ) (place : ℕ) : Type 0 where
  Total : WrongTotal bytes place → IsBad bytes place
  Last : WrongLast bytes place → IsBad bytes place
  Count : WrongCount bytes place → IsBad bytes place
  Told : WrongPrevious bytes place → IsBad bytes place
  Encoding : WrongEncoding bytes place → IsBad bytes place
  Trailing : IsTrailing bytes place → IsBad bytes place
  Missing : IsMissing bytes place → IsBad bytes place

-- The least bad place is the first.
pub record IsFirstBad (bytes : List ℕ) (place : ℕ) : Type 0 where
  pub bad : IsBad bytes place
  pub least : (other : ℕ) → IsBad bytes other → place ≤ other
