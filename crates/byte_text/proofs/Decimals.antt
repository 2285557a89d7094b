-- Serves the laws `decimals_are_canonical` and `decimals_are_short`, and `value` of `read_u64` and
-- `read_i64`.
use Rattle.std.proofs.Common.{◌≡◌, ◌≢◌, ◌<◌, ◌^◌, ◌&&◌, if◌then◌else◌, nat_lt, ℕ, suc, ℤ, pos, negsuc, Bool, true, false, List, [], ◌∷◌, drop, get_or, Option, Some, None, ap, ◌∙◌, inl, inr, refl, arith, subst, FitsSigned}
use Rattle.std.specs.Prelude.{unwrap_or}
use Rattle.std.specs.Int.{w64}
use Rattle.std.specs.Fmt.{decimal, signed_decimal}
use Rattle.std.specs.Str.{bytes_eq}
use Rattle.std.specs.Str.Parse.{AllDigits, digits_value, signed_digits_value, starts_with_minus}
use Rattle.std.proofs.lemmas.Bool.Decides.{nat_tests}
use Rattle.std.proofs.lemmas.Fmt.{decimal_is_IsNumeral, length-decimal-le}
use Rattle.std.proofs.lemmas.Int.{ints}
use Rattle.std.proofs.lemmas.Slice.Eq.{bytes_eq-Decides}
use Rattle.std.proofs.lemmas.Str.Parse.{digit_at, digit_from_value, without_leading_plus_none}
use Rattle.byte_text.specs.Number.{u64_of, i64_of, fits_i64, number_held, number_in, IsShort, IsDigit, AreDigits, AreSignedDigits}

-- what a test that was passed says
some_if : {A : Type 0} (test : Bool) (value n : A) → (if test then Some value else None) ≡ Some n → (test ≡ true) × (value ≡ n)
some_if true value n e = (refl, cc)
some_if false value n e = cc

both : (a b : Bool) → a && b ≡ true → (a ≡ true) × (b ≡ true)
both true b e = (refl, e)
both false b e = cc

both_true : (a b : Bool) → a ≡ true → b ≡ true → a && b ≡ true
both_true true b e f = f
both_true false b e f = cc

none_else : {A : Type 0} (o : Option A) → ((n : A) → o ≢ Some n) → o ≡ None
none_else None other = refl
none_else (Some n) other = absurd (other n refl)

below : (m n : ℕ) → m < n → nat_lt m n ≡ true
below m n h = grind (arith, nat_tests)

is_below : (m n : ℕ) → nat_lt m n ≡ true → m < n
is_below m n h = grind (arith, nat_tests)

pub u64_of-decimal : (n : ℕ) → n < 2 ^ 64 → u64_of (decimal n) ≡ Some n
unfolding u64_of
u64_of-decimal n small =
    let value = (decimal_is_IsNumeral n small).1 in
    rw value (rw (both_true (nat_lt n (2 ^ 64)) (bytes_eq (decimal n) (decimal n)) (below n (2 ^ 64) small) ((bytes_eq-Decides (decimal n) (decimal n)).1 refl)) refl)

pub u64_of-only : (text : List ℕ) (n : ℕ) → u64_of text ≡ Some n → (n < 2 ^ 64) × (text ≡ decimal n)
unfolding u64_of
u64_of-only text n e =
    let v = digits_value 10 text in
    let passed = some_if (nat_lt v (2 ^ 64) && bytes_eq text (decimal v)) v n e in
    let tests = both (nat_lt v (2 ^ 64)) (bytes_eq text (decimal v)) passed.0 in
    rw (← passed.1) (is_below v (2 ^ 64) tests.0, (bytes_eq-Decides text (decimal v)).0 tests.1)

pub fits : (n : ℤ) → FitsSigned w64 n → fits_i64 n ≡ true
fits (pos n) h = below n (2 ^ 63) (omega (arith, ints))
fits (negsuc n) h = below n (2 ^ 63) (omega (arith, ints))

pub is_fit : (n : ℤ) → fits_i64 n ≡ true → FitsSigned w64 n
is_fit (pos n) h = let small = is_below n (2 ^ 63) h in omega (arith, ints)
is_fit (negsuc n) h = let small = is_below n (2 ^ 63) h in omega (arith, ints)

-- the first byte of a decimal is a digit
first_digit : (n : ℕ) → n < 2 ^ 64 → IsDigit (get_or (decimal n) 0 0)
first_digit n small =
    let numeral = (decimal_is_IsNumeral n small).0 in digit_at (decimal n) 0 numeral.1 numeral.0

signed_value : (n : ℤ) → FitsSigned w64 n → signed_digits_value 10 (signed_decimal n) ≡ n
signed_value (pos n) h =
    let small : n < 2 ^ 64 = omega (arith, ints) in
    let front = first_digit n small in
    let plain : starts_with_minus (decimal n) ≡ false = grind (arith, nat_tests) in
    let no_plus : get_or (decimal n) 0 0 ≢ 43 = λ e. omega arith in
    rw plain (rw (without_leading_plus_none (decimal n) no_plus) (ap pos (decimal_is_IsNumeral n small).1))
signed_value (negsuc n) h =
    let small : suc n < 2 ^ 64 = omega (arith, ints) in
    rw (decimal_is_IsNumeral (suc n) small).1 refl

pub i64_of-decimal : (n : ℤ) → FitsSigned w64 n → i64_of (signed_decimal n) ≡ Some n
unfolding i64_of
i64_of-decimal n h =
    rw (signed_value n h) (rw (both_true (fits_i64 n) (bytes_eq (signed_decimal n) (signed_decimal n)) (fits n h) ((bytes_eq-Decides (signed_decimal n) (signed_decimal n)).1 refl)) refl)

pub i64_of-only : (text : List ℕ) (n : ℤ) → i64_of text ≡ Some n → FitsSigned w64 n × (text ≡ signed_decimal n)
unfolding i64_of
i64_of-only text n e =
    let v = signed_digits_value 10 text in
    let passed = some_if (fits_i64 v && bytes_eq text (signed_decimal v)) v n e in
    let tests = both (fits_i64 v) (bytes_eq text (signed_decimal v)) passed.0 in
    rw (← passed.1) (is_fit v tests.0, (bytes_eq-Decides text (signed_decimal v)).0 tests.1)

-- what is the decimal of no number is read as none
pub u64_of-none : (text : List ℕ) → ((n : ℕ) → n < 2 ^ 64 → text ≢ decimal n) → u64_of text ≡ None
u64_of-none text other =
    none_else (u64_of text) (λ n e. let is = u64_of-only text n e in other n is.0 is.1)

pub i64_of-none : (text : List ℕ) → ((n : ℤ) → FitsSigned w64 n → text ≢ signed_decimal n) → i64_of text ≡ None
i64_of-none text other =
    none_else (i64_of text) (λ n e. let is = i64_of-only text n e in other n is.0 is.1)

pub u64_of-is : (text : List ℕ) (n : ℕ) → n < 2 ^ 64 → text ≡ decimal n → u64_of text ≡ Some n
u64_of-is text n small e = ap u64_of e ∙ u64_of-decimal n small

pub i64_of-is : (text : List ℕ) (n : ℤ) → FitsSigned w64 n → text ≡ signed_decimal n → i64_of text ≡ Some n
i64_of-is text n h e = ap i64_of e ∙ i64_of-decimal n h

pub decimal-short : (n : ℕ) → n < 2 ^ 64 → IsShort (decimal n)
decimal-short n small =
    record { some = (decimal_is_IsNumeral n small).0.0; few = length-decimal-le 20 n (omega arith) (omega arith) small }

all_digits : (text : List ℕ) → AllDigits 10 text → AreDigits text
all_digits [] h = tt
all_digits (byte ∷ text) h = (digit_from_value byte h.0, all_digits text h.1)

digits-drop : (text : List ℕ) → AreDigits text → AreDigits (drop 1 text)
digits-drop [] h = tt
digits-drop (byte ∷ text) h = h.1

pub decimal-digits : (n : ℕ) → n < 2 ^ 64 → AreDigits (decimal n)
decimal-digits n small = all_digits (decimal n) (decimal_is_IsNumeral n small).0.1

pub signed_decimal-short : (n : ℤ) → FitsSigned w64 n → IsShort (signed_decimal n)
signed_decimal-short (pos n) h = decimal-short n (omega (arith, ints))
signed_decimal-short (negsuc n) h =
    record { some = omega arith; few = omega (arith, length-decimal-le 19 (suc n) (omega arith) (omega (arith, ints)) (omega (arith, ints))) }

pub signed_decimal-digits : (n : ℤ) → FitsSigned w64 n → AreSignedDigits (signed_decimal n)
signed_decimal-digits (pos n) h =
    let small : n < 2 ^ 64 = omega (arith, ints) in
    (inl (first_digit n small), digits-drop (decimal n) (decimal-digits n small))
signed_decimal-digits (negsuc n) h = (inr refl, decimal-digits (suc n) (omega (arith, ints)))

read-fits : (text : List ℕ) (read : Option ℤ) → i64_of text ≡ read → FitsSigned w64 (unwrap_or read (pos 0))
read-fits text None e = is_fit (pos 0) refl
read-fits text (Some n) e = (i64_of-only text n e).0

pub number_in-fits : (text : List ℕ) → FitsSigned w64 (number_in text)
unfolding number_in
number_in-fits text = read-fits text (i64_of text) refl

pub number_held-fits : (held : Option (List ℕ)) (n : ℤ) → number_held held ≡ Some n → FitsSigned w64 n
number_held-fits None n e = subst (λ (k : Option ℤ). FitsSigned w64 (unwrap_or k (pos 0))) e (is_fit (pos 0) refl)
number_held-fits (Some text) n e = (i64_of-only text n e).0
