-- Numbers that were saved are read again, and numbers that are read rise.
use Rattle.std.proofs.Common.{◌≡◌, ◌+ℤ◌, ◌-ℤ◌, ℕ, suc, zero, ◌+◌, ℤ, pos, Bool, true, false, List, [], ◌∷◌, length, Option, Some, None, Result, Ok, Err, refl, ap, subst, true≢false, ◌∙◌, arith}
use Rattle.std.specs.Prelude.{int_le, unsigned_abs}
use Rattle.std.specs.Int.{cast_signed, cast_unsigned, w64}
use Rattle.std.specs.List.{list_all}
use Rattle.std.specs.Result.{is_err, result_unwrap_or}
use Rattle.std.proofs.lemmas.Int.{ints, to_z-of_z}
use Rattle.std.proofs.lemmas.Option.{none-some, same_Some}
use Rattle.byte_text.specs.Number.{fits_i64}
use Rattle.byte_text.proofs.Decimals.{fits, is_fit}
use Rattle.core_types.specs.declared.load_fault.LoadFault.{LoadFault}
use Rattle.core_types.specs.declared.tagged.Tagged.TheVariants as tagged
use Rattle.module_laws.specs.Types.{is_short}
use Rattle.module_laws.specs.Words.{Saved}
use Rattle.mod_samples.specs.HelloNumbers.{before_read, number_after, numbers_after, numbers_in, part_after, parts_after, read_on, saved_numbers, where_so}
use Rattle.mod_samples.specs.Rising.{is_rising, not_below, rises}
use Rattle.mod_samples.specs.inner.Rises.{by_rises, rises_by}

pub err-ok : {A : Type 0} {why : LoadFault} {value : A} → Err why ≡ Ok value → ⊥
err-ok e = true≢false (ap is_err e)

abbrev pub loaded : {A : Type 0} → A → Result A LoadFault
loaded value = Ok value

pub same_Ok : {A : Type 0} (a b : A) → loaded a ≡ Ok b → a ≡ b
same_Ok a b e = ap (λ r. result_unwrap_or r a) e

-- a number behind one that is not above it is that one and the difference
difference : (last n : ℤ) → int_le last n ≡ true → last +ℤ pos (unsigned_abs (n -ℤ last)) ≡ n
difference last n h = omega (arith, ints)

where_true : {A : Type 0} (b : Bool) (value : A) → b ≡ true → where_so b value ≡ Some value
where_true true value h = refl
where_true false value h = cc

part_number : Option ℤ → ℤ → ℕ
part_number None n = cast_unsigned w64 n
part_number (Some last) n = unsigned_abs (n -ℤ last)

-- in version 1 each part stands for the number that it was saved for
number_back : (last : Option ℤ) (n : ℤ) → not_below last n ≡ true → fits_i64 n ≡ true
    → number_after 1 last (part_number last n) ≡ Some n
unfolding part_number
number_back None n above small = ap (λ m. Some m) (to_z-of_z w64 n (is_fit n small))
number_back (Some last) n above small =
    let is = difference last n above in
    ap (λ m. where_so (fits_i64 m) m) is ∙ where_true (fits_i64 n) n small

numbers_case : (last : Option ℤ) (n : ℤ) (left place : ℕ) (parts : Saved)
    → number_after 1 last (part_number last n) ≡ Some n
    → numbers_after 1 last (suc left) place (part_after last n ∷ parts)
    ≡ before_read n (numbers_after 1 (Some n) left (place + 1) parts)
unfolding part_number
numbers_case None n left place parts is =
    ap (λ m. read_on place m (λ k. numbers_after 1 (Some k) left (place + 1) parts)) is
numbers_case (Some last) n left place parts is =
    ap (λ m. read_on place m (λ k. numbers_after 1 (Some k) left (place + 1) parts)) is

numbers_back : (last : Option ℤ) (ns : List ℤ) (place : ℕ) → rises last ns ≡ true
    → numbers_after 1 last (length ns) place (parts_after last ns) ≡ Ok ns
numbers_back last [] place h = refl
numbers_back last (n ∷ ns) place h =
    let by = rises_by last n ns h in
    numbers_case last n (length ns) place (parts_after (Some n) ns)
    (number_back last n by.above by.fits)
    ∙ ap (before_read n) (numbers_back (Some n) ns (place + 1) by.behind)

-- what a list in rising order is saved as is read as that list
pub read_back : (ns : List ℤ) → is_rising ns ≡ true → numbers_in 1 (saved_numbers ns) ≡ Ok ns
read_back ns h = numbers_back None ns 1 h

-- a number that is read is not below the one before it, and has 64 bits
signed_fits : (part : ℕ) → fits_i64 (cast_signed w64 part) ≡ true
signed_fits part = fits (cast_signed w64 part) (omega (arith, ints))

not_negative : (last : ℤ) (part : ℕ) → int_le last (last +ℤ pos part) ≡ true
not_negative last part = grind (arith, ints)

record Follows (last : Option ℤ) (n : ℤ) : Type 0 where
  pub above : not_below last n ≡ true
  pub small : fits_i64 n ≡ true

so_follows : (last : Option ℤ) (b : Bool) (m n : ℤ) → where_so b m ≡ Some n
    → (b ≡ true → Follows last m) → Follows last n
so_follows last true m n is h = subst (Follows last) (same_Some m n is) (h refl)
so_follows last false m n is h = absurd (none-some n is)

number_follows : (version : ℕ) (last : Option ℤ) (part : ℕ) (n : ℤ)
    → number_after version last part ≡ Some n → Follows last n
number_follows version None part n is =
    subst (Follows None) (same_Some (cast_signed w64 part) n is)
    (record { above = refl; small = signed_fits part })
number_follows zero (Some last) part n is =
    so_follows (Some last) (int_le last (cast_signed w64 part)) (cast_signed w64 part) n is
    (λ above. record { above = above; small = signed_fits part })
number_follows (suc version) (Some last) part n is =
    so_follows (Some last) (fits_i64 (last +ℤ pos part)) (last +ℤ pos part) n is
    (λ small. record { above = not_negative last part; small = small })

read_case : (last : Option ℤ) (n : ℤ) (ns : List ℤ) (r : Result (List ℤ) LoadFault)
    → before_read n r ≡ Ok ns → Follows last n
    → ((more : List ℤ) → r ≡ Ok more → rises (Some n) more ≡ true) → rises last ns ≡ true
read_case last n ns (Ok more) is follows behind =
    subst (λ list. rises last list ≡ true) (same_Ok (n ∷ more) ns is)
    (by_rises last n more
    (record { above = follows.above; fits = follows.small; behind = behind more refl }))
read_case last n ns (Err why) is follows behind = absurd (err-ok is)

on_case : (version : ℕ) (last : Option ℤ) (left place : ℕ) (parts : Saved) (ns : List ℤ)
    → (number : Option ℤ) → ((n : ℤ) → number ≡ Some n → Follows last n)
    → read_on place number (λ n. numbers_after version (Some n) left (place + 1) parts) ≡ Ok ns
    → ((n : ℤ) (more : List ℤ) → numbers_after version (Some n) left (place + 1) parts ≡ Ok more
    → rises (Some n) more ≡ true) → rises last ns ≡ true
on_case version last left place parts ns None follows is behind = absurd (err-ok is)
on_case version last left place parts ns (Some n) follows is behind =
    read_case last n ns (numbers_after version (Some n) left (place + 1) parts) is (follows n refl)
    (behind n)

numbers_rise : (version : ℕ) (last : Option ℤ) (left place : ℕ) (parts : Saved) (ns : List ℤ)
    → numbers_after version last left place parts ≡ Ok ns → rises last ns ≡ true
numbers_rise version last zero place [] ns is =
    subst (λ list. rises last list ≡ true) (same_Ok [] ns is) refl
numbers_rise version last zero place (part ∷ parts) ns is = absurd (err-ok is)
numbers_rise version last (suc left) place [] ns is = absurd (err-ok is)
numbers_rise version last (suc left) place (tagged.Bytes bytes ∷ parts) ns is = absurd (err-ok is)
numbers_rise version last (suc left) place (tagged.Number part ∷ parts) ns is =
    on_case version last left place parts ns (number_after version last part)
    (number_follows version last part) is
    (λ n more. numbers_rise version (Some n) left (place + 1) parts more)

-- numbers that are read are in rising order
pub read_rising : (version : ℕ) (parts : Saved) (ns : List ℤ) → numbers_in version parts ≡ Ok ns
    → is_rising ns ≡ true
read_rising version [] ns is = absurd (err-ok is)
read_rising version (tagged.Bytes bytes ∷ parts) ns is = absurd (err-ok is)
read_rising version (tagged.Number count ∷ parts) ns is =
    numbers_rise version None count 1 parts ns is

parts_short : (last : Option ℤ) (ns : List ℤ) → list_all is_short (parts_after last ns) ≡ true
parts_short last [] = refl
parts_short None (n ∷ ns) = parts_short (Some n) ns
parts_short (Some last) (n ∷ ns) = parts_short (Some n) ns

-- no part of a saved list is long
pub saved_short : (ns : List ℤ) → list_all is_short (saved_numbers ns) ≡ true
saved_short ns = parts_short None ns
