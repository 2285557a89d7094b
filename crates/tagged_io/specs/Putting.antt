-- What is put as a part of a saved value.
use Rattle.std.specs.Prelude.{ℕ, ℤ, List, ⊤, FitsSigned}
use Rattle.std.specs.Int.{cast_unsigned, w64}
use Rattle.core_types.specs.declared.tagged.Tagged.{Tagged}
use Rattle.core_types.specs.declared.tagged.Tagged.TheVariants as tagged

-- a number
abbrev pub unsigned_part : ℕ → Tagged
unsigned_part n = tagged.Number n

-- a number that has a sign: its two's complement
abbrev pub signed_part : ℤ → Tagged
signed_part n = tagged.Number (cast_unsigned w64 n)

-- a byte string
abbrev pub bytes_part : List ℕ → Tagged
bytes_part bytes = tagged.Bytes bytes

-- one thing that is put
pub data Put : Type 0 where
  Unsigned : (n : ℕ) → Put
  Signed : (n : ℤ) → Put
  Bytes : (bytes : List ℕ) → Put

-- the part that it is saved as
abbrev pub part : Put → Tagged
part (Put.Unsigned n) = unsigned_part n
part (Put.Signed n) = signed_part n
part (Put.Bytes bytes) = bytes_part bytes

-- a number that has a sign has 64 bits
abbrev pub HasRange : Put → Type 0
HasRange (Put.Signed n) = FitsSigned w64 n
HasRange _ = ⊤
