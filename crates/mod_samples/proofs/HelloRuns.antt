-- What the calls of HelloType read and leave. Serves their clauses.
use Rattle.std.proofs.Common.{◌≡◌, ℕ, ◌+◌, ℤ, Bool, true, false, List, [], ◌∷◌, ◌++◌, length, map, Option, Some, None, Result, Ok, Err, OnOk, OnErr, refl, sym, ap, subst, ◌∙◌, arith, append_assoc, if◌then◌else◌}
use Rattle.std.specs.Prelude.{FitsSigned, int_lt, pos}
use Rattle.std.specs.Fmt.{signed_decimal}
use Rattle.std.specs.Int.{w64}
use Rattle.std.specs.List.{AllByRecursion}
use Rattle.std.specs.Option.{option_and_then, option_map, unwrap_or}
use Rattle.std.specs.Result.{result_unwrap_or}
use Rattle.std.proofs.lemmas.List.{append-nil}
use Rattle.std.proofs.lemmas.Option.{none-some, same_Some}
use Rattle.byte_text.proofs.Decimals.{i64_of-decimal, is_fit, signed_decimal-short}
use Rattle.byte_text.specs.Name.{same_name}
use Rattle.byte_text.specs.Number.{i64_of}
use Rattle.sequences.specs.Words.{word}
use Rattle.core_types.specs.Keys.{Keys, value_at}
use Rattle.core_types.specs.Keyspace.{IsString}
use Rattle.core_types.specs.declared.effect.Effect.{Effect}
use Rattle.core_types.specs.declared.value.Value.TheVariants as value
use Rattle.module_laws.specs.Replay.{own_value}
use Rattle.module_laws.specs.Rewriting.{IsOwnEffect, Rebuilds, after_all}
use Rattle.module_laws.specs.Told.{Seen}
use Rattle.module_laws.specs.Words.{Bytes, Words}
use Rattle.module_laws.specs.Plain.{answers_only}
use Rattle.mod_samples.specs.HelloNumbers.{numbers_of, saved_numbers}
use Rattle.mod_samples.specs.HelloType.{hello_after, hello_name, hellotype, insert_name, lengths, list_at, numbers_at, numbers_or_none, ranges, shown, to_insert}
use Rattle.mod_samples.specs.Rising.{inserted, is_rising, rises}
use Rattle.mod_samples.specs.inner.ReadBack.{read_back}
use Rattle.mod_samples.specs.inner.Rises.{first_rises, inserted_last, rises_by}

-- the numbers of a list that was saved
pub numbers_back : (ns : List ℤ) → is_rising ns ≡ true → numbers_of (saved_numbers ns) ≡ ns
numbers_back ns rising = ap (λ r. result_unwrap_or r []) (read_back ns rising)

-- the numbers of a key that has a list
pub numbers_found : (keys : Keys) (key : Bytes) (ns : List ℤ) → is_rising ns ≡ true
    → value_at keys key ≡ Some (value.Native (shown ns)) → numbers_at keys key ≡ Some ns
numbers_found keys key ns rising found =
    ap (λ v. option_map numbers_or_none (own_value hello_name v)) found
    ∙ ap (λ list. Some list) (numbers_back ns rising)

pub list_found : (keys : Keys) (key : Bytes) (ns : List ℤ) → is_rising ns ≡ true
    → value_at keys key ≡ Some (value.Native (shown ns)) → list_at keys key ≡ ns
list_found keys key ns rising found =
    ap (λ o. unwrap_or o []) (numbers_found keys key ns rising found)

-- the words of an INSERT
pub insert_read : (words : Words) → length words ≡ 3
    → same_name (word 0 words) insert_name ≡ true → i64_of (word 2 words) ≡ to_insert words
unfolding word
insert_read [] three same = absurd (omega arith)
insert_read (name ∷ []) three same = absurd (omega arith)
insert_read (name ∷ key ∷ []) three same = absurd (omega arith)
insert_read (name ∷ key ∷ text ∷ []) three same =
    ap (λ b. if b then i64_of text else None) (sym same)
insert_read (name ∷ key ∷ text ∷ other ∷ more) three same = absurd (omega arith)

pub other_count : (words : Words) → (length words ≡ 3 → ⊥) → None ≡ to_insert words
other_count [] other = refl
other_count (name ∷ []) other = refl
other_count (name ∷ key ∷ []) other = refl
other_count (name ∷ key ∷ text ∷ []) other = absurd (other refl)
other_count (name ∷ key ∷ text ∷ four ∷ more) other = refl

pub other_name : (words : Words) → same_name (word 0 words) insert_name ≡ false
    → None ≡ to_insert words
unfolding word
other_name [] same = refl
other_name (name ∷ []) same = refl
other_name (name ∷ key ∷ []) same = refl
other_name (name ∷ key ∷ text ∷ []) same = ap (λ b. if b then i64_of text else None) (sym same)
other_name (name ∷ key ∷ text ∷ four ∷ more) same = refl

length_case : (n m : ℤ) (ms : List ℤ) (b : Bool) → length (inserted n ms) ≡ length ms + 1
    → length (if b then m ∷ inserted n ms else n ∷ m ∷ ms) ≡ length (m ∷ ms) + 1
length_case n m ms true more = omega (arith, more)
length_case n m ms false more = omega arith

-- a list with a number more is longer by one
pub length-inserted : (n : ℤ) (ns : List ℤ) → length (inserted n ns) ≡ length ns + 1
length-inserted n [] = omega arith
length-inserted n (m ∷ ms) = length_case n m ms (int_lt m n) (length-inserted n ms)

-- what a RANGE and a LEN do is to answer
pub ranges_only : (seen : Seen) (first count : Option ℕ) (ns : Option (List ℤ))
    → ranges seen first count ns ≡ answers_only (ranges seen first count ns).answer seen
ranges_only seen None None ns = refl
ranges_only seen None (Some count) ns = refl
ranges_only seen (Some first) None ns = refl
ranges_only seen (Some first) (Some count) None = refl
ranges_only seen (Some first) (Some count) (Some ns) = refl

pub lengths_only : (seen : Seen) (ns : Option (List ℤ))
    → lengths seen ns ≡ answers_only (lengths seen ns).answer seen
lengths_only seen None = refl
lengths_only seen (Some ns) = refl

-- the INSERT of a number
abbrev pub insert_effect : Bytes → ℤ → Effect
insert_effect key n = record { words = insert_name ∷ key ∷ signed_decimal n ∷ [] }

fits_at : (last : Option ℤ) (done : List ℤ) (n : ℤ) (ns : List ℤ)
    → rises last (done ++ n ∷ ns) ≡ true → FitsSigned w64 n
fits_at last [] n ns rising = is_fit n (rises_by last n ns rising).fits
fits_at last (m ∷ ms) n ns rising =
    fits_at (Some m) ms n ns (rises_by last m (ms ++ n ∷ ns) rising).behind

-- each INSERT adds its number at the end
after_each : (key : Bytes) (done ns : List ℤ) → is_rising (done ++ ns) ≡ true
    → after_all hellotype (Some (saved_numbers done)) (map (insert_effect key) ns)
    ≡ Some (Some (saved_numbers (done ++ ns)))
after_each key done [] rising =
    ap (λ ns. Some (Some (saved_numbers ns))) (sym (append-nil done))
after_each key done (n ∷ ns) rising =
    let more = map (insert_effect key) ns in
    let joined : done ++ n ∷ ns ≡ (done ++ n ∷ []) ++ ns = sym (append_assoc done (n ∷ []) ns) in
    let first : is_rising (done ++ n ∷ []) ≡ true = first_rises None (done ++ n ∷ []) ns
    (subst (λ list. is_rising list ≡ true) joined rising) in
    let there : is_rising done ≡ true = first_rises None done (n ∷ []) first in
    ap (λ o. option_and_then (λ made. after_all hellotype made more)
    (option_map (λ k. Some (saved_numbers (inserted k (numbers_of (saved_numbers done))))) o))
    (i64_of-decimal n (fits_at None done n ns rising))
    ∙ ap (λ list. after_all hellotype (Some (saved_numbers list)) more)
    (ap (inserted n) (numbers_back done there) ∙ inserted_last n None done first)
    ∙ after_each key (done ++ n ∷ []) ns (subst (λ list. is_rising list ≡ true) joined rising)
    ∙ ap (λ list. Some (Some (saved_numbers list))) (sym joined)

own_each : (key : Bytes) (last : Option ℤ) (ns : List ℤ) → IsString key → rises last ns ≡ true
    → AllByRecursion (IsOwnEffect hellotype key) (map (insert_effect key) ns)
own_each key last [] short rising = tt
own_each key last (n ∷ ns) short rising = (
  record {
    row = record { name = insert_name; arity = pos 3; writes = true; key = 1 };
    named = refl;
    writes = refl;
    keyed = refl;
    small = record {
      some = omega arith;
      few = omega arith;
      each = (
        omega arith,
        (short, (omega (arith, (signed_decimal-short n (is_fit n (rises_by last n ns rising).fits)).few), tt)),
      );
    };
  },
  own_each key (Some n) ns short (rises_by last n ns rising).behind,
)

-- one INSERT for each number builds a list again
pub rebuilds : (key : Bytes) (ns : List ℤ) → IsString key → is_rising ns ≡ true
    → Rebuilds hellotype key (saved_numbers ns) (map (insert_effect key) ns)
rebuilds key [] short rising = refl
rebuilds key (n ∷ ns) short rising = record {
  some = omega arith;
  own = own_each key None (n ∷ ns) short rising;
  built = ap (λ o. option_and_then
      (λ made. after_all hellotype made (map (insert_effect key) ns))
      (option_map (λ k. Some (saved_numbers (k ∷ []))) o))
      (i64_of-decimal n (is_fit n (rises_by None n ns rising).fits))
      ∙ after_each key (n ∷ []) ns rising;
}

-- what holds on `Ok`, or on `Err`, is carried on
pub on_ok : {A E : Type 0} (r : Result A E) (P Q : Type 0) → OnOk r P → (P → Q) → OnOk r Q
on_ok (Ok value) P Q holds on = on holds
on_ok (Err why) P Q holds on = tt

pub on_err : {A E : Type 0} (r : Result A E) (P Q : Type 0) → OnErr r P → (P → Q) → OnErr r Q
on_err (Ok value) P Q holds on = tt
on_err (Err why) P Q holds on = on holds

-- a key that has a list of this length has one
pub record HasLength (ns : Option (List ℤ)) (count : ℕ) : Type 0 where
  pub there : ns ≡ Some (unwrap_or ns [])
  pub long : length (unwrap_or ns []) ≡ count

pub has_length : (ns : Option (List ℤ)) (count : ℕ) → option_map length ns ≡ Some count
    → HasLength ns count
has_length None count is = absurd (none-some count is)
has_length (Some ns) count is = record { there = refl; long = same_Some (length ns) count is }

-- an INSERT that is applied to a list
pub applied : (words : Words) (n : ℤ) (ns new : List ℤ) → is_rising ns ≡ true
    → to_insert words ≡ Some n → new ≡ inserted n ns
    → hello_after (Some (saved_numbers ns)) words ≡ Some (Some (saved_numbers new))
applied words n ns new rising is made =
    ap (option_map (λ k. Some (saved_numbers (inserted k (numbers_of (saved_numbers ns)))))) is
    ∙ ap (λ list. Some (Some (saved_numbers (inserted n list)))) (numbers_back ns rising)
    ∙ ap (λ list. Some (Some (saved_numbers list))) (sym made)
