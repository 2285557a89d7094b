-- What a ziplist is: a header, entries, and `FF`.
use Rattle.std.specs.Prelude.{ℕ, ◌≡◌, ◌⊎◌, ⊤, ◌+◌, ◌-◌, ◌≤◌, List, [], ◌∷◌, ◌++◌, length, take}
use Rattle.std.specs.Prelude.{drop, map}
use Rattle.std.specs.List.{AllByRecursion, flat_map}
use Rattle.zip_lists.specs.Numbers.{little}
use Rattle.zip_lists.specs.Entry.{Entry, IsEntry, entry_bytes, item_of, told}

-- the three numbers of the header, the lowest byte first: how many bytes there are in all, ..
abbrev pub total_of : List ℕ → ℕ
total_of bytes = little (take 4 bytes)

-- .. where the last entry begins, ..
abbrev pub last_of : List ℕ → ℕ
last_of bytes = little (take 4 (drop 4 bytes))

-- .. and how many entries there are
abbrev pub count_of : List ℕ → ℕ
count_of bytes = little (take 2 (drop 8 bytes))

abbrev pub header_size : ℕ
header_size = 10

-- the byte behind the last entry
abbrev pub end_mark : ℕ
end_mark = 0xFF

-- the bytes of entries, one after the other
abbrev pub entries_bytes : List Entry → List ℕ
entries_bytes entries = flat_map entry_bytes entries

-- where the next entry begins, behind these
abbrev pub place_behind : List Entry → ℕ
place_behind entries = header_size + length (entries_bytes entries)

-- where the last of these entries begins, or the first would
abbrev pub last_start : List Entry → ℕ
last_start entries = place_behind (take (length entries - 1) entries)

-- how many bytes the last of these entries has, or this many where there is none
abbrev pub last_size : ℕ → List Entry → ℕ
last_size before [] = before
last_size before (entry ∷ more) = last_size (length (entry_bytes entry)) more

-- Each entry tells the length of the one before it, the first of them this one.
abbrev pub AllTell : ℕ → List Entry → Type 0
AllTell before [] = ⊤
AllTell before (entry ∷ more) = (told entry.previous ≡ before)
    × AllTell (length (entry_bytes entry)) more

-- 65535 says nothing of the number of entries.
abbrev pub IsCount : ℕ → ℕ → Type 0
IsCount stated count = (stated ≡ 65535) ⊎ (stated ≡ count)

-- Behind the header stand these entries, each of them whole, and then the rest.
pub record Stands (bytes : List ℕ) (entries : List Entry) (rest : List ℕ) : Type 0 where
  pub header : header_size ≤ length bytes
  pub each : AllByRecursion IsEntry entries
  pub body : drop header_size bytes ≡ entries_bytes entries ++ rest

-- The bytes are a ziplist of these items.
pub record IsZiplist (bytes : List ℕ) (items : List (List ℕ)) : Type 0 where
  pub entries : List Entry
  pub whole : Stands bytes entries (end_mark ∷ [])
  pub total : total_of bytes ≡ length bytes
  pub last : last_of bytes ≡ last_start entries
  pub count : IsCount (count_of bytes) (length entries)
  pub tell : AllTell 0 entries
  pub items_are : items ≡ map item_of entries
