-- The checksum of RDB version 9: a cyclic redundancy check of 64 bits. It is reflected, begins with
-- 0, and is left as it is at the end.
use Rattle.std.specs.Prelude.{◌/◌, ◌%◌, ◌==◌, if◌then◌else◌, zero, suc, ℕ, List, bit_xor, fold}
use Rattle.std.specs.Int.{w64, reverse_bits}

-- the polynomial, without its highest power
abbrev pub polynomial : ℕ
polynomial = 0xad93d23594c935a9

-- Reflected: the lowest bit is that of the highest power.
unfoldable pub reflected : ℕ
reflected = reverse_bits w64 polynomial

-- One bit is taken: the rest moves down, and the polynomial is added where the bit was 1.
unfoldable pub stepped : ℕ → ℕ
stepped sum = if sum % 2 == 1 then bit_xor (sum / 2) reflected else sum / 2

-- some bits
unfoldable pub steps : ℕ → ℕ → ℕ
steps zero sum = sum
steps (suc n) sum = steps n (stepped sum)

-- a byte is added to the low bits, and eight bits are taken
abbrev pub with_byte : ℕ → ℕ → ℕ
with_byte sum byte = steps 8 (bit_xor sum byte)

-- The checksum after more bytes. That of some bytes is the one after them from 0 on.
abbrev pub checksum_after : ℕ → List ℕ → ℕ
checksum_after sum bytes = fold with_byte sum bytes

abbrev pub checksum : List ℕ → ℕ
checksum bytes = checksum_after 0 bytes
