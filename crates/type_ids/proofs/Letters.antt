-- Serves the law `letters_in_order`, and `letter_of` in `letters` of `letters_of`.
use Rattle.std.proofs.Common.{◌≡◌, ℕ, ◌<◌, map, refl, arith}
use Rattle.std.specs.List.{range_with_len}
use Rattle.std.proofs.lemmas.Bool.Decides.{nat_tests}
use Rattle.type_ids.specs.Letter.{letters, letter_number, letter_at, IsLetter}

pub in_order : map letter_at (range_with_len 0 64) ≡ letters
in_order = refl

pub numbered : map letter_number letters ≡ range_with_len 0 64
numbered = refl

pub letter-back : (byte : ℕ) → IsLetter byte → letter_at (letter_number byte) ≡ byte
letter-back byte h = grind (arith, nat_tests)

pub number-back : (number : ℕ) → number < 64 → letter_number (letter_at number) ≡ number
number-back number h = grind (arith, nat_tests)
