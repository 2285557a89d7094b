-- Serves `text` and `none` of `read_u64` and `read_i64`: digits, read from the first one on.
use Rattle.std.proofs.Common.{◌≡◌, ℕ, zero, suc, ◌+◌, ◌*◌, ◌<◌, ◌≤◌, ◌^◌, List, length, take, get_or, sym, ap, arith}
use Rattle.std.specs.Char.{digit_value}
use Rattle.std.specs.Fmt.{decimal}
use Rattle.std.specs.Str.Parse.{AllDigits, digits_value}
use Rattle.std.proofs.lemmas.Fmt.{decimal_is_IsNumeral, decimal_digit, first_decimal, decimal-digits_value}
use Rattle.std.proofs.lemmas.Int.Digits.{digits_more, digits_value_more}
use Rattle.std.proofs.lemmas.Str.{digit_value_digit}
use Rattle.std.proofs.lemmas.Str.Parse.{IsNumeralModel, numerals_by_value, tells_digits, digit_at, digits_value-take-le}

-- std's own words for digits
own : IsNumeralModel (AllDigits 10) (digits_value 10)
own = numerals_by_value (AllDigits 10) tells_digits

pub digit_value-at : (text : List ℕ) (i : ℕ) → AllDigits 10 text → i < length text → digit_value (get_or text i 0) < 10
digit_value-at text i digits less =
    let range = digit_at text i digits less in
    omega (arith, digit_value_digit (get_or text i 0) range, range.1)

-- the value of one digit more is at most that of all
pub one_more-le : (text : List ℕ) (i : ℕ) → i < length text → digits_value 10 (take i text) * 10 + digit_value (get_or text i 0) ≤ digits_value 10 text
one_more-le text i less =
    omega (arith, digits_value_more 10 text i less, digits_value-take-le 10 text (i + 1) (omega arith))

-- one digit more
pub ruleset one_more = (digit_value-at, one_more-le, digits_more, digits_value_more)

-- how the decimal of a number looks
pub record IsDecimal (text : List ℕ) (n : ℕ) : Type 0 where
  pub some : 0 < length text
  pub front : get_or text 0 0 ≡ 48 → length text ≤ 1
  pub digits : AllDigits 10 text
  pub value : digits_value 10 text ≡ n

leading_zero : (n : ℕ) → n < 2 ^ 64 → get_or (decimal n) 0 0 ≡ 48 → length (decimal n) ≤ 1
leading_zero zero small e = omega (arith, ap (λ (ds : List ℕ). length ds) (decimal_digit 0 (omega arith)))
leading_zero (suc n) small e = omega (arith, first_decimal (suc n) (omega arith) small)

pub IsDecimal-decimal : (text : List ℕ) (n : ℕ) → n < 2 ^ 64 → text ≡ decimal n → IsDecimal text n
IsDecimal-decimal text n small e =
    let numeral = decimal_is_IsNumeral n small in
    rw e record {
      some = numeral.0.0;
      front = leading_zero n small;
      digits = numeral.0.1;
      value = numeral.1;
    }

-- and a text that looks so is the decimal of its value
pub decimal-value : (text : List ℕ) → 0 < length text → (get_or text 0 0 ≡ 48 → length text ≤ 1) → AllDigits 10 text → digits_value 10 text < 2 ^ 64 → text ≡ decimal (digits_value 10 text)
decimal-value text some front digits small =
    sym (decimal-digits_value own text digits some (λ e. omega (arith, front e)) small)

pub ruleset decimals = (IsDecimal-decimal, decimal-value)
