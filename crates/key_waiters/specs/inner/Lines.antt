-- The tickets that wait, by their keys.
use Rattle.std.specs.Prelude.{◌≡◌, ℕ, ◌==◌, Bool, true, false, if◌then◌else◌, List, Option, Some}
use Rattle.std.specs.Prelude.{unwrap_or}
use Rattle.std.specs.Option.{option_map_or, MatchOption}
use Rattle.std.specs.Ordering.{nat_cmp}
use Rattle.std.specs.Cmp.Lexicographic.{slice_cmp}
use Rattle.std.specs.Global.{Vec}
use Rattle.std.specs.Map.{lookup}
use Rattle.std.specs.BTreeMap.{BTreeMap, UpdatesBy, is_at}
use Rattle.std.specs.FinMap as map
use Rattle.std.specs.FinSet as set
use Rattle.std.specs.Coded.{Coded, coded_ℕ, coded_list}
use Rattle.key_waiters.specs.Waiting.{Waiting, key_at}

abbrev pub LineSet : Type 0
LineSet = set.FinSet nat_cmp

abbrev pub coded_line : Coded LineSet
coded_line = set.code coded_ℕ

-- the tickets that wait on each key
abbrev pub LinesMap : Type 0
LinesMap = map.FinMap (slice_cmp nat_cmp) LineSet

abbrev pub coded_lines : Coded LinesMap
coded_lines = map.code (coded_list coded_ℕ) coded_line

-- whether a ticket stands in the line of a key
abbrev pub holds : LinesMap → List ℕ → ℕ → Bool
holds lines key ticket = option_map_or (λ s. set.contains s ticket) (map.get lines key) false

-- with a ticket in the line of a key
abbrev pub with_place : LinesMap → List ℕ → ℕ → LinesMap
with_place lines key ticket =
    map.insert lines key (set.insert (unwrap_or (map.get lines key) set.empty) ticket)

-- without it; no line is left without a ticket
abbrev pub without_place : LinesMap → List ℕ → ℕ → LinesMap
without_place lines key ticket =
    option_map_or
    (λ s. if set.len (set.remove s ticket) == 0 then map.remove lines key
    else map.insert lines key (set.remove s ticket))
    (map.get lines key)
    lines

-- the line of a key in a tree
abbrev pub line_in : BTreeMap (Vec ℕ) LineSet → List ℕ → Option LineSet
line_in tree key = lookup (is_at (λ k. slice_cmp nat_cmp key k.items)) tree.entries

-- the line of a key is changed, where it is there, and nothing else
abbrev pub Rewrites : BTreeMap (Vec ℕ) LineSet → BTreeMap (Vec ℕ) LineSet → List ℕ
    → (LineSet → LineSet) → Type 0
Rewrites old new key change =
    MatchOption (line_in old key) (new.entries ≡ old.entries)
    (λ s. UpdatesBy (λ a b. slice_cmp nat_cmp a.items b.items)
    (λ k. slice_cmp nat_cmp key k.items) old new (Some (change s)))

-- a ticket stands in the line of the key that it waits on, and in no other
pub record Agree (waiting : Waiting) (lines : LinesMap) : Type 0 where
  pub listed : (key : List ℕ) (ticket : ℕ) → key_at waiting ticket ≡ Some key
      → holds lines key ticket ≡ true
  pub waits : (key : List ℕ) (ticket : ℕ) → holds lines key ticket ≡ true
      → key_at waiting ticket ≡ Some key
