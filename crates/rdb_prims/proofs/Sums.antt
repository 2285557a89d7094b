-- Serves `bytes` of `Crc64::add`: the checksum by bits is the one by a table.
use Rattle.std.proofs.Common.{◌≡◌, ℕ, zero, suc, ◌+◌, ◌*◌, ◌/◌, ◌%◌, ◌^◌, ◌<◌, ◌⊎◌, ◌&&◌, Bool, true, eqb, List, [], ◌∷◌, ◌++◌, length, get_or, take, refl, sym, ap, ap₂, ◌∙◌, inl, inr, arith, eqb-true, pow-suc, mul_assoc, add-zero}
use Rattle.std.specs.Prelude.{bit_xor}
use Rattle.std.specs.Int.Bits.{xor_assoc, xor_self, xor_zero_r, xor_shifted}
use Rattle.std.proofs.lemmas.Bool.{cases_eq, and_parts}
use Rattle.std.proofs.lemmas.Nat.{xor_comm, xor_lt, xor_shr, xor_mod}
use Rattle.std.proofs.lemmas.List.{take_more}
use Rattle.std.proofs.lemmas.Grind.{fold-append}
use Rattle.rdb_prims.specs.Checksum.{reflected, stepped, steps, with_byte, checksum_after}
use Rattle.rdb_prims.specs.inner.Table.{IsTable}

-- ---- sums of bits

swapped : (a b r : ℕ) → bit_xor (bit_xor a b) r ≡ bit_xor (bit_xor a r) b
swapped a b r = xor_assoc a b r ∙ ap (bit_xor a) (xor_comm b r) ∙ sym (xor_assoc a r b)

twice : (a b r : ℕ) → bit_xor (bit_xor a r) (bit_xor b r) ≡ bit_xor a b
twice a b r =
    ap (bit_xor (bit_xor a r)) (xor_comm b r) ∙ sym (xor_assoc (bit_xor a r) r b)
    ∙ ap (λ (x : ℕ). bit_xor x b) (xor_assoc a r r ∙ ap (bit_xor a) (xor_self r) ∙ xor_zero_r a)

-- ---- one bit

parity : (n : ℕ) → (n % 2 ≡ 0) ⊎ (n % 2 ≡ 1)
parity n =
    elim (cases_eq (n % 2) 0) [
      | inl even ↦ inl even
      | inr odd ↦ inr (omega arith)
    ]

stepped-even : (n : ℕ) → n % 2 ≡ 0 → stepped n ≡ n / 2
unfolding stepped
stepped-even n e = rw e refl

stepped-odd : (n : ℕ) → n % 2 ≡ 1 → stepped n ≡ bit_xor (n / 2) reflected
unfolding stepped
stepped-odd n e = rw e refl

low_bit : (a b : ℕ) → bit_xor a b % 2 ≡ bit_xor (a % 2) (b % 2)
low_bit a b = xor_mod a b 1

high_bits : (a b : ℕ) → bit_xor a b / 2 ≡ bit_xor (a / 2) (b / 2)
high_bits a b = xor_shr a b 1

pub stepped-xor : (a b : ℕ) → stepped (bit_xor a b) ≡ bit_xor (stepped a) (stepped b)
stepped-xor a b =
    elim (parity a) [
      | inl p ↦ elim (parity b) [
        | inl q ↦
            stepped-even (bit_xor a b) (low_bit a b ∙ ap₂ bit_xor p q) ∙ high_bits a b
            ∙ sym (ap₂ bit_xor (stepped-even a p) (stepped-even b q))
        | inr q ↦
            stepped-odd (bit_xor a b) (low_bit a b ∙ ap₂ bit_xor p q)
            ∙ ap (λ (x : ℕ). bit_xor x reflected) (high_bits a b)
            ∙ xor_assoc (a / 2) (b / 2) reflected
            ∙ sym (ap₂ bit_xor (stepped-even a p) (stepped-odd b q))
      ]
      | inr p ↦ elim (parity b) [
        | inl q ↦
            stepped-odd (bit_xor a b) (low_bit a b ∙ ap₂ bit_xor p q)
            ∙ ap (λ (x : ℕ). bit_xor x reflected) (high_bits a b)
            ∙ swapped (a / 2) (b / 2) reflected
            ∙ sym (ap₂ bit_xor (stepped-odd a p) (stepped-even b q))
        | inr q ↦
            stepped-even (bit_xor a b) (low_bit a b ∙ ap₂ bit_xor p q) ∙ high_bits a b
            ∙ sym (twice (a / 2) (b / 2) reflected)
            ∙ sym (ap₂ bit_xor (stepped-odd a p) (stepped-odd b q))
      ]
    ]

-- ---- some bits

pub steps-xor : (n a b : ℕ) → steps n (bit_xor a b) ≡ bit_xor (steps n a) (steps n b)
unfolding steps
steps-xor zero a b = refl
steps-xor (suc n) a b = ap (steps n) (stepped-xor a b) ∙ steps-xor n (stepped a) (stepped b)

doubled : (n a : ℕ) → a * 2 ^ suc n ≡ (a * 2 ^ n) * 2
doubled n a = ap (λ (x : ℕ). a * x) (pow-suc 2 n) ∙ sym (mul_assoc a (2 ^ n) 2)

stepped-doubled : (n : ℕ) → stepped (n * 2) ≡ n
stepped-doubled n =
    let even : (n * 2) % 2 ≡ 0 = omega arith in
    let half : (n * 2) / 2 ≡ n = omega arith in
    stepped-even (n * 2) even ∙ half

-- bits above those that are taken only move down
pub steps-above : (n a : ℕ) → steps n (a * 2 ^ n) ≡ a
unfolding steps
steps-above zero a = omega arith
steps-above (suc n) a =
    ap (steps n) (ap stepped (doubled n a) ∙ stepped-doubled (a * 2 ^ n)) ∙ steps-above n a

-- ---- one byte

byte_apart : (n : ℕ) → steps 8 n ≡ bit_xor (n / 256) (steps 8 (n % 256))
byte_apart n =
    let low : n % 256 < 2 ^ 8 = omega arith in
    let parts : bit_xor ((n / 256) * 2 ^ 8) (n % 256) ≡ n =
    xor_shifted (n / 256) 8 (n % 256) low ∙ omega arith in
    ap (steps 8) (sym parts) ∙ steps-xor 8 ((n / 256) * 2 ^ 8) (n % 256)
    ∙ ap (λ (x : ℕ). bit_xor x (steps 8 (n % 256))) (steps-above 8 (n / 256))

pub byte_taken : (sum byte : ℕ) → byte < 256
    → with_byte sum byte ≡ bit_xor (sum / 256) (steps 8 (bit_xor (sum % 256) byte))
byte_taken sum byte h =
    let high : byte / 256 ≡ 0 = omega arith in
    let low : byte % 256 ≡ byte = omega arith in
    byte_apart (bit_xor sum byte)
    ∙ ap₂ bit_xor (xor_shr sum byte 8 ∙ ap (bit_xor (sum / 256)) high ∙ xor_zero_r (sum / 256)) (ap (steps 8) (xor_mod sum byte 8 ∙ ap (bit_xor (sum % 256)) low))

-- ---- some bytes

pub checksum-append : (sum : ℕ) (front more : List ℕ)
    → checksum_after sum (front ++ more) ≡ checksum_after (checksum_after sum front) more
checksum-append sum front more = fold-append with_byte sum front more

-- a byte is taken by a look into the table
pub by_table : (table : List ℕ) (sum byte place : ℕ) → IsTable table → byte < 256
    → place ≡ bit_xor (sum % 256) byte
    → bit_xor (sum / 256) (get_or table place 0) ≡ with_byte sum byte
by_table table sum byte place t small is =
    let below : place < 256 = rw is (xor_lt 8 (sum % 256) byte (omega arith) small) in
    ap (bit_xor (sum / 256)) (t.entries place below ∙ ap (steps 8) is)
    ∙ sym (byte_taken sum byte small)

pub next_byte : (old : ℕ) (piece : List ℕ) (i : ℕ) → i < length piece
    → with_byte (checksum_after old (take i piece)) (get_or piece i 0) ≡ checksum_after old (take (i + 1) piece)
next_byte old piece i within =
    sym (checksum-append old (take i piece) (get_or piece i 0 ∷ []))
    ∙ ap (checksum_after old) (sym (take_more piece i 0 within))

-- ---- the table

-- each entry from a number on is eight bits taken from its number
abbrev pub is_table : ℕ → List ℕ → Bool
is_table first [] = true
is_table first (entry ∷ entries) = eqb entry (steps 8 first) && is_table (suc first) entries

pub entry_is : (first : ℕ) (entries : List ℕ) (k : ℕ) → is_table first entries ≡ true
    → k < length entries → get_or entries k 0 ≡ steps 8 (first + k)
entry_is first [] k e h = absurd (omega arith)
entry_is first (entry ∷ entries) zero e h =
    eqb-true entry (steps 8 first) (and_parts _ _ e).0 ∙ ap (steps 8) (sym (add-zero first))
entry_is first (entry ∷ entries) (suc k) e h =
    entry_is (suc first) entries k (and_parts _ _ e).1 (omega arith) ∙ ap (steps 8) (omega arith)

pub table_is : (entries : List ℕ) → length entries ≡ 256 → is_table 0 entries ≡ true
    → IsTable entries
table_is entries size e = record {
  size = size;
  entries = λ byte small. entry_is 0 entries byte e (omega arith) ∙ ap (steps 8) (omega arith);
}
