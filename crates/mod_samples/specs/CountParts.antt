-- How words with counts are saved, and which ones saved parts stand for.
use Rattle.std.specs.Prelude.{◌≡◌, ℕ, suc, zero, ◌+◌, Bool, true, false, List, [], ◌∷◌, drop, length, Option, Some, None, Result, Ok, Err}
use Rattle.std.specs.Result.{result_unwrap_or}
use Rattle.core_types.specs.declared.load_fault.LoadFault.{LoadFault}
use Rattle.core_types.specs.declared.load_fault.LoadFault.TheVariants as load_fault
use Rattle.core_types.specs.declared.stop.Stop.TheVariants as stop
use Rattle.core_types.specs.declared.tagged.Tagged.TheVariants as tagged
use Rattle.module_laws.specs.Words.{Bytes, Saved}
use Rattle.module_laws.specs.declared.verdict.LoadStop.{LoadStop}
use Rattle.module_laws.specs.declared.verdict.LoadStop.TheVariants as stops
use Rattle.std.specs.Borrow.{Bor}
use Rattle.tagged_io.specs.Taking.{Taking}
use Rattle.mod_samples.specs.Counts.{Counted, counted, is_behind, is_count}

-- each word, and behind it its count
abbrev pub parts_of : List Counted → Saved
parts_of [] = []
parts_of (c ∷ cs) = tagged.Bytes c.word ∷ tagged.Number c.count ∷ parts_of cs

-- words are saved as how many they are, and each with its count
abbrev pub saved_counts : List Counted → Saved
saved_counts cs = tagged.Number (length cs) ∷ parts_of cs

-- a word with a count, where a part fits; else its place is at fault
abbrev pub where_fits : Bool → ℕ → Result Counted LoadFault → Result Counted LoadFault
where_fits true place read = read
where_fits false place read = Err (load_fault.Shape place)

-- the count that stands behind a word, at this place
abbrev pub count_behind : Bytes → ℕ → Saved → Result Counted LoadFault
count_behind word place (tagged.Number n ∷ parts) =
    where_fits (is_count n) place (Ok (counted word n))
count_behind word place _ = Err (load_fault.Shape place)

-- the word that stands first, at this place, and its count
abbrev pub first_counted : Option Bytes → ℕ → Saved → Result Counted LoadFault
first_counted last place (tagged.Bytes word ∷ parts) =
    where_fits (is_behind last word) place (count_behind word (place + 1) parts)
first_counted last place _ = Err (load_fault.Shape place)

-- a word before others, where those were read
abbrev pub word_before : Counted → Result (List Counted) LoadFault → Result (List Counted) LoadFault
word_before c (Ok cs) = Ok (c ∷ cs)
word_before c (Err why) = Err why

abbrev pub counted_then : Result Counted LoadFault
    → (Counted → Result (List Counted) LoadFault) → Result (List Counted) LoadFault
counted_then (Ok c) behind = word_before c (behind c)
counted_then (Err why) behind = Err why

-- The words that are left to read, `left` of them, from a place on, behind a last one. The fault is
-- the place of the first part that does not fit, that is one too many, or where one is missing.
abbrev pub counts_after : Option Bytes → ℕ → ℕ → Saved → Result (List Counted) LoadFault
counts_after last zero place [] = Ok []
counts_after last zero place (part ∷ parts) = Err (load_fault.Shape place)
counts_after last (suc left) place parts =
    counted_then (first_counted last place parts)
    (λ c. counts_after (Some c.word) left (place + 2) (drop 2 parts))

-- the words that parts stand for: how many they are, at least one, and each with its count
abbrev pub counts_in : Saved → Result (List Counted) LoadFault
counts_in [] = Err (load_fault.Shape 0)
counts_in (tagged.Bytes bytes ∷ parts) = Err (load_fault.Shape 0)
counts_in (tagged.Number zero ∷ parts) = Err (load_fault.Shape 0)
counts_in (tagged.Number (suc count) ∷ parts) = counts_after None (suc count) 1 parts

abbrev pub counts_again : Result (List Counted) LoadFault → Result Saved LoadFault
counts_again (Ok cs) = Ok (saved_counts cs)
counts_again (Err why) = Err why

-- Version 0 alone is read.
abbrev pub count_loads : Saved → ℕ → Result Saved LoadFault
count_loads parts zero = counts_again (counts_in parts)
count_loads parts (suc version) = Err (load_fault.Version (suc version))

-- the words of a value as it is saved
abbrev pub counts_of : Saved → List Counted
counts_of parts = result_unwrap_or (counts_in parts) []

-- why parts were not read: they stand for no words, or memory ran out
abbrev pub StopsCounting : Result (List Counted) LoadFault → LoadStop → Type 0
StopsCounting counts (stops.Refused why) = counts ≡ Err why
StopsCounting counts (stops.Stopped why) = why ≡ stop.Memory

-- Taking the word that stands first, and its count, gave this and left that: the word and the count
-- are taken, or the place at fault is told.
abbrev pub Takes : Option Bytes → Taking → Taking
    → Result (Bor (List ℕ) × ℕ) LoadStop → Type 0
Takes last old new (Ok taken) = (first_counted last (length old.taken) old.left
    ≡ Ok (counted taken.0.now taken.1)) × (new.left ≡ drop 2 old.left)
    × (length new.taken ≡ length old.taken + 2)
Takes last old new (Err (stops.Refused why)) = first_counted last (length old.taken) old.left ≡ Err why
Takes last old new (Err (stops.Stopped why)) = ⊥
