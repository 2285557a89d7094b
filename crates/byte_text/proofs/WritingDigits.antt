-- Serves `text` of `u64_text` and `i64_text`: digits, set from the last one on at the end of a row.
use Rattle.std.proofs.Common.{◌≡◌, ℕ, ◌+◌, ◌-◌, ◌/◌, ◌%◌, ◌^◌, ◌<◌, ◌≤◌, List, ◌∷◌, ◌++◌, length, drop, set, ap, ◌∙◌, arith, append_assoc, length-append, length-drop, length-set, ℤ, pos, negsuc, false, refl}
use Rattle.std.proofs.lemmas.Fmt.{decimal_step, decimal_digit, decimal_nonempty, length-decimal-le}
use Rattle.std.proofs.lemmas.Int.{ints}
use Rattle.std.proofs.lemmas.List.{drop-set}
use Rattle.std.specs.Fmt.{decimal, signed_decimal}
use Rattle.std.specs.Int.RustNames.{unsigned_abs}
use lib.Signed.{le_z}

-- the last digits of n stand from `first` on, and those of `rest` are still to come before them
pub record HasSet (row : List ℕ) (first rest n : ℕ) : Type 0 where
  pub wide : length row ≡ 20
  pub within : first ≤ 20
  pub digits : decimal rest ++ drop first row ≡ decimal n

-- where the digits of `rest` still fit
pub room : (row : List ℕ) (first rest n : ℕ) → n < 2 ^ 64 → rest < 2 ^ 64 → HasSet row first rest n → 0 < first
room row first rest n fits small h =
    omega (arith, length-append (decimal rest) (drop first row), length-drop first row, ap length h.digits, length-decimal-le 20 n, decimal_nonempty rest)

-- one byte set before those that stand
pub set_before : (row : List ℕ) (first byte : ℕ) → 0 < first → first ≤ length row → drop (first - 1) (set row (first - 1) byte) ≡ byte ∷ drop first row
set_before row first byte some within =
    let next : first - 1 + 1 ≡ first = omega arith in
    drop-set row (first - 1) byte (omega arith) ∙ ap (λ k. byte ∷ drop k row) next

-- one digit more
pub digit_set : (row : List ℕ) (first rest n : ℕ) → n < 2 ^ 64 → rest < 2 ^ 64 → 10 ≤ rest → HasSet row first rest n → HasSet (set row (first - 1) (48 + rest % 10)) (first - 1) (rest / 10) n
digit_set row first rest n fits small more h =
    let some = room row first rest n fits small h in
    let set_one = set_before row first (48 + rest % 10) some (omega arith) in
    record {
      wide = length-set row (first - 1) (48 + rest % 10) ∙ h.wide;
      within = omega arith;
      digits = grind (arith, append_assoc, decimal_step);
    }

-- the first digit, and all of them stand
pub all_set : (row : List ℕ) (first rest n : ℕ) → n < 2 ^ 64 → rest < 10 → HasSet row first rest n → drop (first - 1) (set row (first - 1) (48 + rest)) ≡ decimal n
all_set row first rest n fits small h =
    let some = room row first rest n fits (omega arith) h in
    let set_one = set_before row first (48 + rest) some (omega arith) in
    grind (arith, append_assoc, decimal_digit)

pub all_begins : (row : List ℕ) (first rest n : ℕ) → n < 2 ^ 64 → rest < 10 → HasSet row first rest n → first - 1 + length (decimal n) ≡ 20
all_begins row first rest n fits small h =
    let some = room row first rest n fits (omega arith) h in
    omega (arith, length-append (decimal rest) (drop first row), length-drop first row, ap length h.digits, ap length (decimal_digit rest small))

-- a number below zero has a sign before its digits
pub signed_below : (z : ℤ) → le_z (pos 0) z ≡ false → signed_decimal z ≡ 45 ∷ decimal (unsigned_abs z)
signed_below (pos n) below = grind (arith, ints)
signed_below (negsuc n) below = refl
