-- How a list of numbers is saved, and which list saved parts stand for.
use Rattle.std.specs.Prelude.{◌≡◌, ℕ, suc, zero, ◌+◌, Bool, true, false, ℤ, pos, ◌+ℤ◌, ◌-ℤ◌, unsigned_abs, nat_lt, List, [], ◌∷◌, length, Option, Some, None, Result, Ok, Err, if◌then◌else◌}
use Rattle.std.specs.Int.{cast_signed, w64}
use Rattle.std.specs.Result.{result_unwrap_or}
use Rattle.byte_text.specs.Number.{fits_i64}
use Rattle.core_types.specs.declared.load_fault.LoadFault.{LoadFault}
use Rattle.core_types.specs.declared.load_fault.LoadFault.TheVariants as load_fault
use Rattle.core_types.specs.declared.stop.Stop.TheVariants as stop
use Rattle.core_types.specs.declared.tagged.Tagged.{Tagged}
use Rattle.core_types.specs.declared.tagged.Tagged.TheVariants as tagged
use Rattle.module_laws.specs.Words.{Saved}
use Rattle.module_laws.specs.declared.verdict.LoadStop.{LoadStop}
use Rattle.module_laws.specs.declared.verdict.LoadStop.TheVariants as stops
use Rattle.tagged_io.specs.Putting.{signed_part, unsigned_part}
use Rattle.mod_samples.specs.Rising.{not_below}

-- The first number is saved with its sign, and each other as its difference from the one before it.
abbrev pub part_after : Option ℤ → ℤ → Tagged
part_after None n = signed_part n
part_after (Some last) n = unsigned_part (unsigned_abs (n -ℤ last))

abbrev pub parts_after : Option ℤ → List ℤ → Saved
parts_after last [] = []
parts_after last (n ∷ ns) = part_after last n ∷ parts_after (Some n) ns

-- a list is saved as its length and its numbers
abbrev pub saved_numbers : List ℤ → Saved
saved_numbers ns = unsigned_part (length ns) ∷ parts_after None ns

abbrev pub where_so : {A : Type 0} → Bool → A → Option A
where_so true value = Some value
where_so false value = None

-- The number that a part stands for behind the one before it, where it fits. In version 0 each is
-- saved with its sign and may not be below the one before it. In version 1 a first one is, and each
-- other is a difference, whose sum may not pass 2^63 - 1.
abbrev pub number_after : ℕ → Option ℤ → ℕ → Option ℤ
number_after version None part = Some (cast_signed w64 part)
number_after zero (Some last) part =
    where_so (not_below (Some last) (cast_signed w64 part)) (cast_signed w64 part)
number_after (suc version) (Some last) part =
    where_so (fits_i64 (last +ℤ pos part)) (last +ℤ pos part)

-- a number before others, where those were read
abbrev pub before_read : ℤ → Result (List ℤ) LoadFault → Result (List ℤ) LoadFault
before_read n (Ok ns) = Ok (n ∷ ns)
before_read n (Err why) = Err why

-- a number that fits and what is read behind it; where it does not fit, its place is at fault
abbrev pub read_on : ℕ → Option ℤ → (ℤ → Result (List ℤ) LoadFault) → Result (List ℤ) LoadFault
read_on place None behind = Err (load_fault.Shape place)
read_on place (Some n) behind = before_read n (behind n)

-- The numbers that are left to read, `left` of them, from a place on, behind a last one. The fault
-- is the place of the first part that does not fit, that is one too many, or where one is missing.
abbrev pub numbers_after : ℕ → Option ℤ → ℕ → ℕ → Saved → Result (List ℤ) LoadFault
numbers_after version last zero place [] = Ok []
numbers_after version last zero place (part ∷ parts) = Err (load_fault.Shape place)
numbers_after version last (suc left) place [] = Err (load_fault.Shape place)
numbers_after version last (suc left) place (tagged.Bytes bytes ∷ parts) =
    Err (load_fault.Shape place)
numbers_after version last (suc left) place (tagged.Number part ∷ parts) =
    read_on place (number_after version last part)
    (λ n. numbers_after version (Some n) left (place + 1) parts)

-- the list that parts stand for: their length, and that many numbers
abbrev pub numbers_in : ℕ → Saved → Result (List ℤ) LoadFault
numbers_in version [] = Err (load_fault.Shape 0)
numbers_in version (tagged.Bytes bytes ∷ parts) = Err (load_fault.Shape 0)
numbers_in version (tagged.Number count ∷ parts) = numbers_after version None count 1 parts

abbrev pub saved_again : Result (List ℤ) LoadFault → Result Saved LoadFault
saved_again (Ok ns) = Ok (saved_numbers ns)
saved_again (Err why) = Err why

-- Versions 0 and 1 are read. The value is saved as in version 1, whichever it was read from.
abbrev pub hello_loads : Saved → ℕ → Result Saved LoadFault
hello_loads parts version =
    if nat_lt 1 version then Err (load_fault.Version version) else
    saved_again (numbers_in version parts)

-- the numbers of a value as it is saved
abbrev pub numbers_of : Saved → List ℤ
numbers_of parts = result_unwrap_or (numbers_in 1 parts) []

-- why parts were not read: they stand for no list, or memory ran out
abbrev pub StopsReading : Result (List ℤ) LoadFault → LoadStop → Type 0
StopsReading numbers (stops.Refused why) = numbers ≡ Err why
StopsReading numbers (stops.Stopped why) = why ≡ stop.Memory
