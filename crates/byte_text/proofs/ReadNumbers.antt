-- Serves `value` of `read_u64` and `read_i64`: what the digits of a text, and its sign, make of it.
use Rattle.std.proofs.Common.{◌≡◌, ◌≢◌, ℕ, zero, suc, ℤ, pos, negsuc, neg_ℤ, ◌<◌, ◌≤◌, ◌^◌, List, [], ◌∷◌, length, drop, get_or, sym, ap, ◌∙◌, arith, FitsSigned, Option, Some, None, IfSome, IfNone, OnSome, SomeIff, Result, Ok, Err}
use Rattle.std.specs.Fmt.{decimal, signed_decimal}
use Rattle.std.specs.Int.{w64}
use Rattle.std.specs.Result.{result_ok, OkIff}
use Rattle.std.specs.Str.Parse.{AllDigits, digits_value}
use Rattle.std.proofs.lemmas.Fmt.{decimal_is_IsNumeral, decimal_injective}
use Rattle.std.proofs.lemmas.Int.{ints}
use Rattle.std.proofs.lemmas.Str.Parse.{digit_at}
use Rattle.byte_text.specs.Number.{u64_of, i64_of}
use Rattle.byte_text.proofs.Decimals.{u64_of-is, u64_of-none, i64_of-is, i64_of-none}
use Rattle.byte_text.proofs.ReadingDigits.{IsDecimal-decimal, decimal-value}

pub digits_read : (text : List ℕ) (r : Option ℕ) → 0 < length text → (get_or text 0 0 ≡ 48 → length text ≤ 1) → IfSome r (λ n. n < 2 ^ 64) → OnSome r (AllDigits 10 text) → IfSome r (λ n. n ≡ digits_value 10 text) → IfNone r (AllDigits 10 text → 2 ^ 64 ≤ digits_value 10 text) → r ≡ u64_of text
digits_read text None some front fits digits value none =
    sym (u64_of-none text (λ n small e. let is = IsDecimal-decimal text n small e in omega (arith, none is.digits, is.value)))
digits_read text (Some n) some front fits digits value none =
    sym (u64_of-is text n fits (decimal-value text some front digits (omega arith) ∙ ap decimal (sym value)))

pub empty_read : (text : List ℕ) → length text < 1 → u64_of text ≡ None
empty_read text empty =
    u64_of-none text (λ n small e. omega (arith, (IsDecimal-decimal text n small e).some))

pub zero_read : (text : List ℕ) → 2 ≤ length text → get_or text 0 0 ≡ 48 → u64_of text ≡ None
zero_read text more zero_first =
    u64_of-none text (λ n small e. omega (arith, (IsDecimal-decimal text n small e).front zero_first))

-- a text with no sign
pub no_first : (text : List ℕ) → length text < 1 → get_or text 0 0 ≢ 45
no_first [] empty e = omega (arith, e)
no_first (byte ∷ text) empty e = omega arith

no_signed : (text : List ℕ) → get_or text 0 0 ≢ 45 → ((n : ℕ) → n < 2 ^ 64 → text ≢ decimal n) → (z : ℤ) → FitsSigned w64 z → text ≢ signed_decimal z
no_signed text no_sign other (pos n) fits e = other n (omega (arith, ints)) e
no_signed text no_sign other (negsuc n) fits e = no_sign (ap (λ (bytes : List ℕ). get_or bytes 0 0) e)

pub unsigned_none : (text : List ℕ) → get_or text 0 0 ≢ 45 → ((n : ℕ) → n < 2 ^ 64 → text ≢ decimal n) → i64_of text ≡ None
unsigned_none text no_sign other = i64_of-none text (no_signed text no_sign other)

first_no_sign : (n : ℕ) → n < 2 ^ 64 → get_or (decimal n) 0 0 ≢ 45
first_no_sign n small e =
    let numeral = (decimal_is_IsNumeral n small).0 in
    let range = digit_at (decimal n) 0 numeral.1 numeral.0 in
    omega (arith, range.0)

too_large : (text : List ℕ) (n : ℕ) → n < 2 ^ 64 → text ≡ decimal n → (FitsSigned w64 (pos n) → ⊥) → (z : ℤ) → FitsSigned w64 z → text ≢ signed_decimal z
too_large text n small e large (pos m) fits f =
    let same : n ≡ m = decimal_injective n m small (omega (arith, ints)) (sym e ∙ f) in
    large (rw same fits)
too_large text n small e large (negsuc m) fits f =
    first_no_sign n small (ap (λ (bytes : List ℕ). get_or bytes 0 0) (sym e ∙ f))

pub ok_read : {E : Type 0} (r : Option ℤ) (s : Result ℤ E) (P : Type 0) (z : ℤ) → r ≡ result_ok s → OkIff s P z → SomeIff r P z
ok_read r (Ok v) P z e h = rw e h
ok_read r (Err f) P z e h = rw e h

pub unsigned_read : (text : List ℕ) (n : ℕ) (r : Option ℤ) → n < 2 ^ 64 → text ≡ decimal n → SomeIff r (FitsSigned w64 (pos n)) (pos n) → r ≡ i64_of text
unsigned_read text n (Some z) small e h = ap (λ (v : ℤ). Some v) h.1 ∙ sym (i64_of-is text (pos n) h.0 e)
unsigned_read text n None small e h = sym (i64_of-none text (too_large text n small e h))

-- a text with a sign
no_digits : (text : List ℕ) → get_or text 0 0 ≡ 45 → ((n : ℕ) → 0 < n → n ≤ 2 ^ 63 → drop 1 text ≢ decimal n) → (z : ℤ) → FitsSigned w64 z → text ≢ signed_decimal z
no_digits text sign other (pos n) fits e =
    first_no_sign n (omega (arith, ints)) (ap (λ (bytes : List ℕ). get_or bytes 0 0) (sym e) ∙ sign)
no_digits text sign other (negsuc n) fits e =
    other (suc n) (omega arith) (omega (arith, ints)) (ap (λ (bytes : List ℕ). drop 1 bytes) e)

pub signed_none : (text : List ℕ) → get_or text 0 0 ≡ 45 → ((n : ℕ) → n < 2 ^ 64 → drop 1 text ≢ decimal n) → i64_of text ≡ None
signed_none text sign other =
    i64_of-none text (no_digits text sign (λ n some few. other n (omega arith)))

with_sign : (text : List ℕ) (n : ℕ) → 0 < n → 0 < length text → get_or text 0 0 ≡ 45 → drop 1 text ≡ decimal n → text ≡ signed_decimal (neg_ℤ (pos n))
with_sign text zero some long sign e = absurd (omega arith)
with_sign [] (suc n) some long sign e = absurd (omega arith)
with_sign (byte ∷ text) (suc n) some long sign e =
    ap (λ (b : ℕ). b ∷ text) sign ∙ ap (λ (ds : List ℕ). 45 ∷ ds) e

below_fits : (n : ℕ) → n ≤ 2 ^ 63 → FitsSigned w64 (neg_ℤ (pos n))
below_fits zero few = omega (arith, ints)
below_fits (suc n) few = omega (arith, ints)

pub signed_read : (text : List ℕ) (n : ℕ) (r : Option ℤ) → n < 2 ^ 64 → 0 < length text → get_or text 0 0 ≡ 45 → drop 1 text ≡ decimal n → SomeIff r ((0 < n) × (n ≤ 2 ^ 63)) (neg_ℤ (pos n)) → r ≡ i64_of text
signed_read text n (Some z) small long sign e h =
    ap (λ (v : ℤ). Some v) h.1 ∙ sym (i64_of-is text (neg_ℤ (pos n)) (below_fits n h.0.1) (with_sign text n h.0.0 long sign e))
signed_read text n None small long sign e h =
    sym (i64_of-none text (no_digits text sign (λ m some few f.
    let same : n ≡ m = decimal_injective n m small (omega arith) (sym e ∙ f) in
    h (omega arith, omega arith))))

-- what is read is read for each number, so what is read as none is the decimal of no number
pub none_left : (text : List ℕ) (r : Option ℤ) → r ≡ i64_of text → IfNone r ((z : ℤ) → FitsSigned w64 z → text ≢ signed_decimal z)
none_left text (Some z) e = tt
none_left text None e =
    λ z fits f. cc (i64_of-is text z fits f)
