-- Reading from a place on: a value and the place behind it, or the first fault that is met.
use Rattle.std.specs.Prelude.{◌≡◌, ◌+◌, ◌-◌, ◌*◌, ◌==◌, if◌then◌else◌, nat_lt, ℕ, List, length, take, drop, slice_index, Result, Ok, Err, IsOk}
use Rattle.std.specs.Int.{Width, w8, w16, w32, w64, byte_len, from_be_bytes, from_le_bytes, cast_signed}
use Rattle.std.specs.Fmt.{signed_decimal}
use Rattle.core_types.specs.declared.load_fault.RdbCause.{RdbCause}
use Rattle.core_types.specs.declared.load_fault.RdbCause.TheVariants as causes
use Rattle.core_types.specs.declared.stop.Stop.TheVariants as stop
use Rattle.rdb_prims.specs.declared.rdb_fault.RdbFault.{RdbFault}
use Rattle.rdb_prims.specs.declared.rdb_fault.RdbStop.{RdbStop}
use Rattle.rdb_prims.specs.declared.rdb_fault.RdbStop.TheVariants as stops
use Rattle.rdb_prims.specs.Length.{Form, Six, Fourteen, ThirtyTwo, SixtyFour, length_mark_32, length_mark_64}
use Rattle.rdb_prims.specs.Text.{longest, integer_mark_8, integer_mark_16, integer_mark_32, compressed_mark}

-- a value and the place behind it, or a fault
abbrev pub Read : Type 0 → Type 0
Read X = Result (X × ℕ) RdbFault

-- a step and what comes after it, up to the first fault
infixl 10 ◌>>=◌
abbrev pub ◌>>=◌ : {A B : Type 0} → Result A RdbFault → (A → Result B RdbFault) → Result B RdbFault
(Ok x) >>= f = f x
(Err e) >>= f = Err e

-- the file ends where a byte is needed
abbrev pub truncated : List ℕ → RdbFault
truncated bytes = record { offset = length bytes; cause = causes.Truncated }

-- a cause at a place
abbrev pub fault_at : ℕ → RdbCause → RdbFault
fault_at at why = record { offset = at; cause = why }

-- a byte, and some bytes
abbrev pub byte_at : List ℕ → ℕ → Read ℕ
byte_at bytes at =
    if nat_lt at (length bytes) then Ok (slice_index bytes at, at + 1) else Err (truncated bytes)

abbrev pub bytes_at : List ℕ → ℕ → ℕ → Read (List ℕ)
bytes_at bytes at count =
    if nat_lt (length bytes) (at + count) then Err (truncated bytes)
    else Ok (take count (drop at bytes), at + count)

-- the form of a length, by its first byte
abbrev pub form_of : ℕ → ℕ → Result Form RdbFault
form_of at first =
    if nat_lt first 0x40 then Ok Six
    else if nat_lt first 0x80 then Ok Fourteen
    else if first == length_mark_32 then Ok ThirtyTwo
    else if first == length_mark_64 then Ok SixtyFour
    else Err (fault_at at causes.BadLength)

-- how many bytes a form has behind its first
abbrev pub size_behind : Form → ℕ
size_behind Six = 0
size_behind Fourteen = 1
size_behind ThirtyTwo = 4
size_behind SixtyFour = 8

-- the length that the first byte of a form and those behind it say
abbrev pub value_of : Form → ℕ → List ℕ → ℕ
value_of Six first more = first
value_of Fourteen first more = (first - 0x40) * 256 + slice_index more 0
value_of ThirtyTwo first more = from_be_bytes w32 more
value_of SixtyFour first more = from_be_bytes w64 more

-- a length: its first byte, and as many as its form has behind that
unfoldable pub length_at : List ℕ → ℕ → Read ℕ
length_at bytes at = do
  first ← byte_at bytes at
  form ← form_of at first.0
  more ← bytes_at bytes first.1 (size_behind form)
  Ok (value_of form first.0 more.0, more.1)

-- a small integer stands for its decimal
unfoldable pub integer_at : Width → List ℕ → ℕ → Read (List ℕ)
integer_at w bytes at = do
  low_first ← bytes_at bytes at (byte_len w)
  Ok (signed_decimal (cast_signed w (from_le_bytes w low_first.0)), low_first.1)

-- a length, and as many bytes; what is too long is judged once it is whole
unfoldable pub plain_at : List ℕ → ℕ → Read (List ℕ)
plain_at bytes at = do
  size ← length_at bytes at
  text ← bytes_at bytes size.1 size.0
  if nat_lt longest size.0 then Err (fault_at at causes.BadLength) else Ok text

-- a string, by its first byte and the place behind that
abbrev pub by_first : List ℕ → ℕ → ℕ × ℕ → Read (List ℕ)
by_first bytes at first =
    if first.0 == integer_mark_8 then integer_at w8 bytes first.1
    else if first.0 == integer_mark_16 then integer_at w16 bytes first.1
    else if first.0 == integer_mark_32 then integer_at w32 bytes first.1
    else if first.0 == compressed_mark then Err (fault_at at causes.Compressed)
    else plain_at bytes at

unfoldable pub string_at : List ℕ → ℕ → Read (List ℕ)
string_at bytes at = do
  first ← byte_at bytes at
  by_first bytes at first

-- What a function answered, seen by a view, is what reading gives.
abbrev pub Finds : {X Y : Type 0} → (X → Y) → Result X RdbFault → Result Y RdbFault → Type 0
Finds view (Ok x) read = read ≡ Ok (view x)
Finds view (Err fault) read = read ≡ Err fault

-- The same, but that memory may run out for what is whole.
abbrev pub Stops : {Y : Type 0} → RdbStop → Result Y RdbFault → Type 0
Stops (stops.Refused fault) read = read ≡ Err fault
Stops (stops.Stopped stop.Memory) read = IsOk read
Stops (stops.Stopped stop.NumbersSpent) read = ⊥

abbrev pub Gives : {X Y : Type 0} → (X → Y) → Result X RdbStop → Result Y RdbFault → Type 0
Gives view (Ok x) read = read ≡ Ok (view x)
Gives view (Err why) read = Stops why read
