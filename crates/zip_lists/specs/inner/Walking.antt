-- The entries that were read so far.
use Rattle.std.specs.Prelude.{ℕ, ◌≡◌, ◌+◌, ◌<◌, List, [], ◌∷◌, ◌++◌, length, drop, map, Option}
use Rattle.std.specs.Prelude.{Some, None, ◌==◌, if◌then◌else◌}
use Rattle.zip_lists.specs.Entry.{Entry, entry_bytes, item_of, told}
use Rattle.zip_lists.specs.Ziplist.{header_size, end_mark, place_behind, last_start, last_size}
use Rattle.zip_lists.specs.Ziplist.{Stands}
use Rattle.zip_lists.specs.BadPlace.{IsFirstBad}
use Rattle.zip_lists.specs.declared.walk.Walk.{Walk}
use Rattle.zip_lists.specs.declared.walk.Step.{Step}
use Rattle.zip_lists.specs.declared.walk.Step.TheVariants as step

-- the first of these entries that tells another length than that of the one before it: where it
-- begins
abbrev pub wrong_among : ℕ → ℕ → List Entry → Option ℕ
wrong_among before start [] = None
wrong_among before start (entry ∷ more) =
    let size = length (entry_bytes entry) in
    if told entry.previous == before then wrong_among size (start + size) more else Some start

-- the same with one entry more, which begins here and tells such a length behind an entry of this
-- one
abbrev pub or_here : Option ℕ → ℕ → ℕ → ℕ → Option ℕ
or_here (Some place) before here length_told = Some place
or_here None before here length_told = if length_told == before then None else Some here

-- what is kept with one entry more
abbrev pub pushed : Walk → List ℕ → ℕ → Option ℕ → Walk
pushed walk item size wrong = record {
  items = walk.items ++ item ∷ [];
  place = walk.place + size;
  last = walk.place;
  before = size;
  wrong = wrong;
}

-- what is kept of these entries
pub record Keeps (walk : Walk) (entries : List Entry) : Type 0 where
  pub place : walk.place ≡ place_behind entries
  pub last : walk.last ≡ last_start entries
  pub before : walk.before ≡ last_size 0 entries
  pub wrong : walk.wrong ≡ wrong_among 0 header_size entries
  pub items : walk.items ≡ map item_of entries

-- The bytes hold entries up to a place, and what is kept is so.
pub record HasWalked (bytes : List ℕ) (walk : Walk) : Type 0 where
  pub entries : List Entry
  pub stands : Stands bytes entries (drop walk.place bytes)
  pub keeps : Keeps walk entries

-- One more entry was read, or the end mark stands there, or the first bad place is known.
abbrev pub IsStep : List ℕ → Walk → Walk → Step → Type 0
IsStep bytes old new step.Onward = HasWalked bytes new × (old.place < new.place)
IsStep bytes old new step.End =
    HasWalked bytes new × (drop new.place bytes ≡ end_mark ∷ drop (new.place + 1) bytes)
IsStep bytes old new (step.Bad place) = IsFirstBad bytes place
