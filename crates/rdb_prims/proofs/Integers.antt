-- Serves `string` and `fault` of `read_string`, and the laws: small integers as strings.
use Rattle.std.proofs.Common.{◌≡◌, ℕ, ℤ, Ok, ◌+◌, ◌*◌, ◌%◌, ◌^◌, ◌<◌, ◌≤◌, List, [], ◌∷◌, ◌++◌, length, drop, refl, sym, ap, ◌∙◌, inl, inr, arith, FitsSigned}
use Rattle.std.specs.Int.{w8, w16, w32, byte_len, to_le_bytes, from_le_bytes, cast_unsigned, cast_signed}
use Rattle.std.specs.Fmt.{signed_decimal}
use Rattle.std.proofs.lemmas.Int.{ints, of_z-to_z, to_z-of_z}
use Rattle.std.proofs.lemmas.Nat.{le_bytes_2, le_bytes_4, from_le_bytes-to_le_bytes_2, from_le_bytes-to_le_bytes_4}
use Rattle.rdb_prims.specs.declared.rdb_fault.RdbFault.{RdbFault}
use Rattle.rdb_prims.specs.Text.{Size, One, Two, Four, width}
use Rattle.rdb_prims.specs.Places.{AreBytes}
use Rattle.rdb_prims.specs.Reading.{truncated, bytes_at, integer_at}
use Rattle.rdb_prims.proofs.Steps.{done, failed, carried, no_err, bind_ok, bind_err, AreBytes-drop, AreBytes-take, bytes_read, bytes_none, bytes_found, bytes_lack}

-- the bytes of an integer
abbrev pub low_first : Size → ℤ → List ℕ
low_first size z = to_le_bytes (width size) (cast_unsigned (width size) z)

-- the integer of some bytes
abbrev pub integer_of : Size → List ℕ → ℤ
integer_of size bytes = cast_signed (width size) (from_le_bytes (width size) bytes)

pub length-low_first : (size : Size) (z : ℤ) → length (low_first size z) ≡ byte_len (width size)
length-low_first One z = refl
length-low_first Two z = refl
length-low_first Four z = refl

unsigned_fits : (size : Size) (z : ℤ) → FitsSigned (width size) z
    → cast_unsigned (width size) z < 2 ^ (8 * byte_len (width size))
unsigned_fits One z h = omega (arith, ints)
unsigned_fits Two z h = omega (arith, ints)
unsigned_fits Four z h = omega (arith, ints)

from_low_first : (size : Size) (z : ℤ) → FitsSigned (width size) z
    → from_le_bytes (width size) (low_first size z) ≡ cast_unsigned (width size) z
from_low_first One z h = let small : cast_unsigned w8 z < 256 = unsigned_fits One z h in omega arith
from_low_first Two z h = from_le_bytes-to_le_bytes_2 (cast_unsigned w16 z) (unsigned_fits Two z h)
from_low_first Four z h = from_le_bytes-to_le_bytes_4 (cast_unsigned w32 z) (unsigned_fits Four z h)

pub integer_of-low_first : (size : Size) (z : ℤ) → FitsSigned (width size) z
    → integer_of size (low_first size z) ≡ z
integer_of-low_first size z h =
    ap (cast_signed (width size)) (from_low_first size z h) ∙ to_z-of_z (width size) z h

-- Bytes are those of the integer that they say.
pub record IsSaid (size : Size) (bytes : List ℕ) : Type 0 where
  pub held : FitsSigned (width size) (integer_of size bytes)
  pub spelled : low_first size (integer_of size bytes) ≡ bytes

one_byte : (bytes : List ℕ) → length bytes ≡ 1 → AreBytes bytes → IsSaid One bytes
one_byte [] size fits = absurd cc
one_byte (b ∷ []) size fits =
    let small : b < 256 = fits 0 in
    let back : cast_unsigned w8 (cast_signed w8 b) ≡ b = of_z-to_z w8 b small in
    let whole : b % 256 ≡ b = omega arith in
    record {
      held = omega (arith, ints);
      spelled = rw back (ap (λ (n : ℕ). n ∷ []) whole);
    }
one_byte (b ∷ c ∷ bytes) size fits = absurd (omega arith)

pub integer_decodes : (size : Size) (bytes : List ℕ) → length bytes ≡ byte_len (width size)
    → AreBytes bytes → IsSaid size bytes
integer_decodes One bytes size fits = one_byte bytes size fits
integer_decodes Two bytes size fits =
    let small : from_le_bytes w16 bytes < 2 ^ 16 = omega (arith, fits 0, fits 1) in
    record {
      held = omega (arith, ints);
      spelled =
          rw (of_z-to_z w16 (from_le_bytes w16 bytes) small) (le_bytes_2 bytes _ size fits refl);
    }
integer_decodes Four bytes size fits =
    let small : from_le_bytes w32 bytes < 2 ^ 32 = omega (arith, fits 0, fits 1, fits 2, fits 3) in
    record {
      held = omega (arith, ints);
      spelled =
          rw (of_z-to_z w32 (from_le_bytes w32 bytes) small) (le_bytes_4 bytes _ size fits refl);
    }

-- ---- reading them

pub integer_reads : (bytes : List ℕ) (at : ℕ) (size : Size) (z : ℤ) (more : List ℕ)
    → at ≤ length bytes → FitsSigned (width size) z → drop at bytes ≡ low_first size z ++ more
    → integer_at (width size) bytes at ≡ done (signed_decimal z, at + byte_len (width size))
unfolding integer_at
integer_reads bytes at size z more within held e =
    rw (
      bytes_read bytes at (byte_len (width size)) (low_first size z) more within e (length-low_first size z),
      integer_of-low_first size z held,
    ) refl

pub integer_cut : (bytes : List ℕ) (at : ℕ) (size : Size) → at ≤ length bytes
    → length (drop at bytes) < byte_len (width size)
    → integer_at (width size) bytes at ≡ failed (truncated bytes)
unfolding integer_at
integer_cut bytes at size within short =
    rw (bytes_none bytes at (byte_len (width size)) within short) refl

-- what an integer that was read says
pub record BeginsInteger (bytes : List ℕ) (at : ℕ) (size : Size) (found : List ℕ × ℕ) : Type 0 where
  pub value : ℤ
  pub held : FitsSigned (width size) value
  pub more : List ℕ
  pub rest : drop at bytes ≡ low_first size value ++ more
  pub decimal : found.0 ≡ signed_decimal value
  pub next : found.1 ≡ at + byte_len (width size)

pub integer_found : (bytes : List ℕ) (at : ℕ) (size : Size) (found : List ℕ × ℕ) → AreBytes bytes
    → integer_at (width size) bytes at ≡ done found → BeginsInteger bytes at size found
unfolding integer_at
integer_found bytes at size found fits e =
    let a =
    bind_ok (bytes_at bytes at (byte_len (width size))) (λ low. Ok (signed_decimal (integer_of size low.0), low.1)) found e in
    let low = a.0 in
    let read = bytes_found bytes at (byte_len (width size)) low a.1 in
    let there : AreBytes low.0 =
    rw read.value (AreBytes-take (byte_len (width size)) (drop at bytes) (AreBytes-drop at bytes fits)) in
    let d = integer_decodes size low.0 read.size there in
    let left = drop (byte_len (width size)) (drop at bytes) in
    let made : BeginsInteger bytes at size (signed_decimal (integer_of size low.0), low.1) = record {
      value = integer_of size low.0;
      held = d.held;
      more = left;
      rest = read.rest ∙ ap (λ (xs : List ℕ). xs ++ left) (sym d.spelled);
      decimal = refl;
      next = read.next;
    } in
    carried (BeginsInteger bytes at size) (
      signed_decimal (integer_of size low.0),
      low.1,
    ) found a.2 made

pub integer_lacks : (bytes : List ℕ) (at : ℕ) (size : Size) (d : RdbFault) → at ≤ length bytes
    → integer_at (width size) bytes at ≡ failed d
    → (length (drop at bytes) < byte_len (width size)) × (truncated bytes ≡ d)
unfolding integer_at
integer_lacks bytes at size d within e =
    elim (bind_err (bytes_at bytes at (byte_len (width size))) (λ low. Ok (signed_decimal (integer_of size low.0), low.1)) d e) [
      | inl p ↦ bytes_lack bytes at (byte_len (width size)) d within p
      | inr p ↦ no_err (signed_decimal (integer_of size p.0.0), p.0.1) d p.2
    ]
