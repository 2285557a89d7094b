-- The numbers of headers, from their texts.
use Rattle.std.proofs.Common.{◌≡◌, ◌⊎◌, ℕ, zero, suc, ◌<◌, ◌≤◌, ◌^◌, false, cond, eqb, leb, List, ◌∷◌, get_or, refl, sym, ap, ◌∙◌, arith, inl, inr, Option, Some, None, ℤ, pos, negsuc, ◌≤ℤ◌, FitsSigned}
use Rattle.std.specs.Int.{w64}
use Rattle.std.specs.List.{list_any}
use Rattle.std.specs.Fmt.{decimal, signed_decimal}
use Rattle.std.proofs.lemmas.Bool.{cases_Bool, cases_lt, le-leb, leb-true, ne_eqb}
use Rattle.std.proofs.lemmas.Fmt.{decimal_is_IsNumeral, length-decimal-le}
use Rattle.std.proofs.lemmas.Int.{ints}
use Rattle.std.proofs.lemmas.List.{get_or_default}
use Rattle.std.proofs.lemmas.List.Folds.{list_any_none}
use Rattle.std.proofs.lemmas.Str.Parse.{digit_at}
use Rattle.byte_text.specs.Number.{u64_of, i64_of}
use Rattle.byte_text.proofs.Decimals.{u64_of-is, u64_of-only, i64_of-is, i64_of-only}
use Rattle.resp_codec.specs.Faults.{IsNoCount, IsHeaderText}
use Rattle.resp_codec.specs.inner.Number.{IsCount}

abbrev bounded : ℕ → Option ℕ → Option ℕ
bounded most None = None
bounded most (Some n) = cond (leb n most) (Some n) None

-- the number up to `most` whose decimal this is
pub natural : ℕ → List ℕ → Option ℕ
natural most text = bounded most (u64_of text)

pub natural-decimal : (most n : ℕ) (text : List ℕ) → most < 2 ^ 64 → n ≤ most → text ≡ decimal n → natural most text ≡ Some n
unfolding natural
natural-decimal most n text small within e = ap (λ (o : Option ℕ). bounded most o) (u64_of-is text n (omega arith) e) ∙ rw (le-leb n most within) refl

bounded-some : (most n : ℕ) (o : Option ℕ) → bounded most o ≡ Some n → (o ≡ Some n) × (n ≤ most)
bounded-some most n None e = cc
bounded-some most n (Some m) e =
    elim (cases_Bool (leb m most)) [
      | inl holds ↦
          let same : Some m ≡ Some n = rw holds at e in
          let is : m ≡ n = cc in
          (same, omega (arith, is, leb-true m most holds))
      | inr fails ↦ let none : None ≡ Some n = rw fails at e in absurd cc
    ]

pub natural-some : (most n : ℕ) (text : List ℕ) → natural most text ≡ Some n → (n ≤ most) × (text ≡ decimal n)
unfolding natural
natural-some most n text e =
    let is = bounded-some most n (u64_of text) e in
    (is.1, (u64_of-only text n is.0).1)

none_or_some : (o : Option ℕ) → ((n : ℕ) → o ≡ Some n → ⊥) → o ≡ None
none_or_some None other = refl
none_or_some (Some n) other = absurd (other n refl)

pub natural-other : (most : ℕ) (text : List ℕ) → ((n : ℕ) → n ≤ most → text ≡ decimal n → ⊥) → natural most text ≡ None
natural-other most text other =
    none_or_some (natural most text) (λ n e. let is = natural-some most n text e in other n is.0 is.1)

abbrev counted : Option ℤ → Option ℕ
counted None = None
counted (Some (pos n)) = cond (leb n 1048576) (Some n) None
counted (Some (negsuc n)) = Some 0

-- the number of words that a multibulk of this count has
pub count_of : List ℕ → Option ℕ
count_of text = counted (i64_of text)

pub count_of-decimal : (n : ℕ) (text : List ℕ) → n ≤ 1048576 → text ≡ decimal n → count_of text ≡ Some n
unfolding count_of
count_of-decimal n text few e = ap counted (i64_of-is text (pos n) (omega (arith, ints)) e) ∙ rw (le-leb n 1048576 few) refl

pub count_of-none : (count : ℤ) (text : List ℕ) → count ≤ℤ pos 0 → FitsSigned w64 count → text ≡ signed_decimal count → count_of text ≡ Some 0
unfolding count_of
count_of-none (pos n) text none fits e =
    let zero_is : n ≡ 0 = omega (arith, ints) in
    count_of-decimal 0 text (omega arith) (e ∙ ap (λ (k : ℕ). decimal k) zero_is)
count_of-none (negsuc n) text none fits e = ap counted (i64_of-is text (negsuc n) fits e)

pub IsCount-plain : (text : List ℕ) (n : ℕ) → n ≤ 1048576 → text ≡ decimal n → IsCount text n
IsCount-plain text zero few e = record { count = pos 0; none = omega (arith, ints); fits = omega (arith, ints); text_is = e }
IsCount-plain text (suc n) few e = (few, e)

-- a number of words, or none
abbrev pub Counted : List ℕ → Type 0
Counted text = ((n : ℕ) × IsCount text n) ⊎ IsNoCount text

-- a number is no count where it is too large
pub many : (text : List ℕ) (n : ℤ) → i64_of text ≡ Some n → (n ≤ℤ pos 1048576 → ⊥) → IsNoCount text
many text n is large m fits few e =
    let same : m ≡ n = (let some : Some m ≡ Some n = sym (i64_of-is text m fits e) ∙ is in cc) in
    large (rw same at few)

counted_as : (text : List ℕ) (o : Option ℤ) → i64_of text ≡ o → Counted text
counted_as text None is = inr (λ n fits few e. let some : None ≡ Some n = sym is ∙ i64_of-is text n fits e in cc)
counted_as text (Some (pos n)) is =
    elim (cases_lt 1048576 n) [
      | inl large ↦ inr (many text (pos n) is (λ few. omega (arith, ints)))
      | inr few ↦ inl (n, IsCount-plain text n few (i64_of-only text (pos n) is).1)
    ]
counted_as text (Some (negsuc n)) is =
    let only = i64_of-only text (negsuc n) is in inl (0, record { count = negsuc n; none = omega (arith, ints); fits = only.0; text_is = only.1 })

pub count_read : (text : List ℕ) → Counted text
count_read text = counted_as text (i64_of text) refl

counted-other : (text : List ℕ) (o : Option ℤ) → IsNoCount text → i64_of text ≡ o → counted o ≡ None
counted-other text None other is = refl
counted-other text (Some (pos n)) other is =
    let only = i64_of-only text (pos n) is in
    elim (cases_Bool (leb n 1048576)) [
      | inl few ↦ absurd (other (pos n) only.0 (omega (arith, ints, leb-true n 1048576 few)) only.1)
      | inr large ↦ rw large refl
    ]
counted-other text (Some (negsuc n)) other is = let only = i64_of-only text (negsuc n) is in absurd (other (negsuc n) only.0 (omega (arith, ints)) only.1)

pub count_of-other : (text : List ℕ) → IsNoCount text → count_of text ≡ None
unfolding count_of
count_of-other text other = counted-other text (i64_of text) other refl

decimal-unbroken : (n : ℕ) → n < 2 ^ 64 → list_any (λ byte. eqb byte 13) (decimal n) ≡ false
decimal-unbroken n small =
    list_any_none (λ byte. eqb byte 13) (decimal n) (λ k d less.
    let range = digit_at (decimal n) k (decimal_is_IsNumeral n small).0.1 less in
    ne_eqb (get_or (decimal n) k d) 13 (λ e. omega (arith, range.0, get_or_default (decimal n) k d 0 less)))

-- a number behind a mark stands before a header's CR
pub IsHeaderText-decimal : (mark n : ℕ) → 13 < mark → n < 2 ^ 64 → IsHeaderText (mark ∷ decimal n)
IsHeaderText-decimal mark n visible small =
    record {
      short = omega (arith, length-decimal-le 20 n (omega arith) (omega arith) small);
      unbroken = rw (ne_eqb mark 13 (λ e. omega arith)) (decimal-unbroken n small);
    }

pub IsHeaderText-signed : (count : ℤ) → FitsSigned w64 count → IsHeaderText (42 ∷ signed_decimal count)
IsHeaderText-signed (pos n) fits = IsHeaderText-decimal 42 n (omega arith) (omega (arith, ints))
IsHeaderText-signed (negsuc n) fits =
    let small : suc n < 2 ^ 64 = omega (arith, ints) in
    record {
      short = omega (arith, length-decimal-le 20 (suc n) (omega arith) (omega arith) small);
      unbroken = decimal-unbroken (suc n) small;
    }
