-- What the calls of WordCount read and leave. Serves their clauses.
use Rattle.std.proofs.Common.{◌≡◌, ℕ, suc, zero, ◌+◌, ℤ, pos, negsuc, Bool, true, false, ◌&&◌, List, [], ◌∷◌, ◌++◌, length, map, ◌≤◌, Option, Some, None, Result, Ok, Err, refl, sym, ap, subst, true≢false, ◌∙◌, arith, append_assoc, if◌then◌else◌}
use Rattle.std.specs.Prelude.{IsSome, is_some, nat_le}
use Rattle.std.specs.Char.{to_ascii_uppercase}
use Rattle.std.specs.List.{AllByRecursion, list_all}
use Rattle.std.specs.Option.{option_and_then, option_map, unwrap_or}
use Rattle.std.specs.Ordering.{match_ordering}
use Rattle.std.specs.declared.cmp.Ordering.{Ordering}
use Rattle.std.specs.declared.cmp.Ordering.TheVariants.{Less, Equal, Greater}
use Rattle.std.specs.Result.{result_unwrap_or}
use Rattle.std.specs.Str.{bytes_eq}
use Rattle.std.proofs.lemmas.Bool.Decides.{nat_tests}
use Rattle.std.proofs.lemmas.Int.{ints}
use Rattle.std.proofs.lemmas.List.{append-nil}
use Rattle.std.proofs.lemmas.Option.{none-some, same_Some}
use Rattle.byte_text.proofs.Decimals.{i64_of-only}
use Rattle.byte_text.specs.Name.{same_name}
use Rattle.byte_text.specs.Number.{i64_of}
use Rattle.sequences.specs.Words.{word}
use Rattle.core_types.specs.Keys.{Keys, Native, value_at}
use Rattle.core_types.specs.Keyspace.{IsString, longest}
use Rattle.core_types.specs.declared.effect.Effect.{Effect}
use Rattle.core_types.specs.declared.load_fault.LoadFault.{LoadFault}
use Rattle.core_types.specs.declared.value.Value.TheVariants as value
use Rattle.module_laws.specs.Laws.{IsFullOrNone, IsSound}
use Rattle.module_laws.specs.Meaning.{type_of}
use Rattle.module_laws.specs.Replay.{own_value}
use Rattle.module_laws.specs.Rewriting.{IsOwnEffect, Rebuilds, after_all}
use Rattle.module_laws.specs.Told.{Seen}
use Rattle.module_laws.specs.Types.{is_short}
use Rattle.module_laws.specs.Words.{Bytes, Words, Saved}
use Rattle.module_laws.specs.Plain.{answers_only}
use Rattle.mod_samples.specs.CountParts.{counts_in, counts_of, saved_counts}
use Rattle.mod_samples.specs.Counts.{Counted, are_counts, count_at, counted, counts_rise, is_count, is_word, some_counts, with_count, without_word, word_order}
use Rattle.mod_samples.specs.WordCount.{count_after, count_name, counts_at, counts_or_none, counts_shown, drop_name, edits, edits_where, gets, is_drop, positive, set_name, set_words, to_set, value_of, wordcount, words_at}
use Rattle.mod_samples.specs.inner.CountLaws.{decimal_read, set_limits, with_full, without_full}
use Rattle.mod_samples.specs.inner.Changing.{own_full}
use Rattle.mod_samples.specs.inner.CountsBack.{counts_read, counts_read_back, parts_short, short_words}
use Rattle.mod_samples.specs.inner.CountsRise.{count_small, counts_by, first_counts, is_small, with_last, with_rises, without_rises}
use Rattle.mod_samples.specs.inner.Rises.{both}

-- the words of a value that was saved
pub counts_back : (cs : List Counted) → some_counts cs ≡ true → counts_of (saved_counts cs) ≡ cs
counts_back cs some = ap (λ r. result_unwrap_or r []) (counts_read_back cs some)

-- the words of a key that has a value
pub counts_found : (keys : Keys) (key : Bytes) (cs : List Counted) → some_counts cs ≡ true
    → value_at keys key ≡ Some (value.Native (counts_shown cs)) → counts_at keys key ≡ Some cs
counts_found keys key cs some found =
    ap (λ v. option_map counts_or_none (own_value count_name v)) found
    ∙ ap (λ list. Some list) (counts_back cs some)

pub words_found : (keys : Keys) (key : Bytes) (cs : List Counted) → some_counts cs ≡ true
    → value_at keys key ≡ Some (value.Native (counts_shown cs)) → words_at keys key ≡ cs
words_found keys key cs some found =
    ap (λ o. unwrap_or o []) (counts_found keys key cs some found)

some_rise : (cs : List Counted) → some_counts cs ≡ true → are_counts cs ≡ true
some_rise [] some = refl
some_rise (c ∷ cs) some = some

of_case : (r : Result (List Counted) LoadFault) → ((cs : List Counted) → r ≡ Ok cs → some_counts cs ≡ true)
    → are_counts (result_unwrap_or r []) ≡ true
of_case (Ok cs) some = some_rise cs (some cs refl)
of_case (Err why) some = refl

none_case : (old : Option Saved) → are_counts (counts_or_none old) ≡ true
none_case None = refl
none_case (Some items) = of_case (counts_in items) (λ cs is. counts_read items cs is)

at_case : (old : Option (Option Saved))
    → are_counts (unwrap_or (option_map counts_or_none old) []) ≡ true
at_case None = refl
at_case (Some old) = none_case old

-- the words of a key are in byte order
pub words_rise : (keys : Keys) (key : Bytes) → are_counts (words_at keys key) ≡ true
words_rise keys key = at_case (own_value count_name (value_at keys key))

length_case : (word : Bytes) (c : Counted) (cs : List Counted) (n : ℕ) (b : Bool)
    → (if b then Some c.count else count_at word cs) ≡ Some n
    → (count_at word cs ≡ Some n → length (without_word word cs) + 1 ≡ length cs)
    → length (if b then cs else c ∷ without_word word cs) + 1 ≡ length (c ∷ cs)
length_case word c cs n true is rest = omega arith
length_case word c cs n false is rest = let less = rest is in omega (arith, less)

-- without a word that is there, there is one less
pub length-without : (word : Bytes) (cs : List Counted) (n : ℕ) → count_at word cs ≡ Some n
    → length (without_word word cs) + 1 ≡ length cs
length-without word [] n is = absurd (none-some n is)
length-without word (c ∷ cs) n is =
    length_case word c cs n (is_word word c.word) is (length-without word cs n)

some_left : (cs : List Counted) → are_counts cs ≡ true → 1 ≤ length cs → some_counts cs ≡ true
some_left [] rises some = absurd (omega arith)
some_left (c ∷ cs) rises some = rises

there_case : (word : Bytes) (cs : List Counted) (n : Option ℕ) → count_at word cs ≡ n → IsSome n
    → length (without_word word cs) + 1 ≡ length cs
there_case word cs None is some = absurd (true≢false (sym some))
there_case word cs (Some n) is some = length-without word cs n is

-- more words than one, without one that is there, are some
pub some_without : (word : Bytes) (cs : List Counted) → are_counts cs ≡ true
    → IsSome (count_at word cs) → (length cs ≡ 1 → ⊥) → some_counts (without_word word cs) ≡ true
some_without word cs rises some more =
    let less = there_case word cs (count_at word cs) refl some in
    some_left (without_word word cs) (without_rises None word cs rises) (omega (arith, less, more))

empty_is : (cs : List Counted) → length cs ≡ 0 → cs ≡ []
empty_is [] none = refl
empty_is (c ∷ cs) none = absurd (omega arith)

-- the only word that is there is the last
pub last_without : (word : Bytes) (cs : List Counted) → IsSome (count_at word cs) → length cs ≡ 1
    → without_word word cs ≡ []
last_without word cs some one =
    let less = there_case word cs (count_at word cs) refl some in
    empty_is (without_word word cs) (omega (arith, less, one))

value_case : (cs : List Counted) → some_counts cs ≡ true → value_of cs ≡ Some (saved_counts cs)
value_case [] some = absurd (true≢false (sym some))
value_case (c ∷ cs) some = refl

-- what some words are as a value
pub value_is : (cs : List Counted) → some_counts cs ≡ true → value_of cs ≡ Some (saved_counts cs)
value_is cs some = value_case cs some

with_case : (word : Bytes) (n : ℕ) (c : Counted) (cs : List Counted) (o : Ordering)
    → 1 ≤ length (match_ordering o (counted word n ∷ c ∷ cs) (counted c.word n ∷ cs)
    (c ∷ with_count word n cs))
with_case word n c cs Less = omega arith
with_case word n c cs Equal = omega arith
with_case word n c cs Greater = omega arith

with_length : (word : Bytes) (n : ℕ) (cs : List Counted) → 1 ≤ length (with_count word n cs)
with_length word n [] = omega arith
with_length word n (c ∷ cs) = with_case word n c cs (word_order word c.word)

-- words in byte order, and one with a count, are some
pub some_with : (word : Bytes) (n : ℕ) (cs : List Counted) → are_counts cs ≡ true
    → is_count n ≡ true → some_counts (with_count word n cs) ≡ true
some_with word n cs rises count =
    some_left (with_count word n cs) (with_rises None word n cs rises refl count)
    (with_length word n cs)

store_case : (allowed : Native → Bool) (seen : Seen) → IsSound (type_of wordcount ∷ []) allowed seen
    → (key wd : Bytes) (n : ℕ) (o : Option (Option Saved))
    → own_value count_name (value_at seen.keys key) ≡ o → IsSome (option_map counts_or_none o)
    → IsString wd → IsFullOrNone wordcount
    (value_of (with_count wd n (unwrap_or (option_map counts_or_none o) [])))
store_case allowed seen sound key wd n None is ours short = absurd (true≢false (sym ours))
store_case allowed seen sound key wd n (Some old) is ours short =
    with_full old wd n (own_full wordcount refl allowed seen sound key old is) short

-- a key that gets a count of a word may have that
pub store_full : (allowed : Native → Bool) (seen : Seen)
    → IsSound (type_of wordcount ∷ []) allowed seen → (key wd : Bytes) (n : ℕ)
    → IsSome (counts_at seen.keys key) → IsString wd
    → IsFullOrNone wordcount (value_of (with_count wd n (words_at seen.keys key)))
store_full allowed seen sound key wd n ours short =
    store_case allowed seen sound key wd n (own_value count_name (value_at seen.keys key)) refl ours short

out_case : (allowed : Native → Bool) (seen : Seen) → IsSound (type_of wordcount ∷ []) allowed seen
    → (key wd : Bytes) (o : Option (Option Saved))
    → own_value count_name (value_at seen.keys key) ≡ o
    → IsFullOrNone wordcount (value_of (without_word wd (unwrap_or (option_map counts_or_none o) [])))
out_case allowed seen sound key wd None is = tt
out_case allowed seen sound key wd (Some old) is =
    without_full old wd (own_full wordcount refl allowed seen sound key old is)

-- and one that a word is taken out of
pub out_full : (allowed : Native → Bool) (seen : Seen)
    → IsSound (type_of wordcount ∷ []) allowed seen → (key wd : Bytes)
    → IsFullOrNone wordcount (value_of (without_word wd (words_at seen.keys key)))
out_full allowed seen sound key wd =
    out_case allowed seen sound key wd (own_value count_name (value_at seen.keys key)) refl

-- the words of a SET
pub set_read : (words : Words) → length words ≡ 4 → same_name (word 0 words) set_name ≡ true
    → positive (i64_of (word 3 words)) ≡ to_set words
unfolding word
set_read [] four same = absurd (omega arith)
set_read (name ∷ []) four same = absurd (omega arith)
set_read (name ∷ key ∷ []) four same = absurd (omega arith)
set_read (name ∷ key ∷ wd ∷ []) four same = absurd (omega arith)
set_read (name ∷ key ∷ wd ∷ text ∷ []) four same =
    ap (λ b. if b then positive (i64_of text) else None) (sym same)
set_read (name ∷ key ∷ wd ∷ text ∷ other ∷ more) four same = absurd (omega arith)

pub set_other_count : (words : Words) → (length words ≡ 4 → ⊥) → None ≡ to_set words
set_other_count [] other = refl
set_other_count (name ∷ []) other = refl
set_other_count (name ∷ key ∷ []) other = refl
set_other_count (name ∷ key ∷ wd ∷ []) other = refl
set_other_count (name ∷ key ∷ wd ∷ text ∷ []) other = absurd (other refl)
set_other_count (name ∷ key ∷ wd ∷ text ∷ five ∷ more) other = refl

pub set_other_name : (words : Words) → same_name (word 0 words) set_name ≡ false
    → None ≡ to_set words
unfolding word
set_other_name [] same = refl
set_other_name (name ∷ []) same = refl
set_other_name (name ∷ key ∷ []) same = refl
set_other_name (name ∷ key ∷ wd ∷ []) same = refl
set_other_name (name ∷ key ∷ wd ∷ text ∷ []) same =
    ap (λ b. if b then positive (i64_of text) else None) (sym same)
set_other_name (name ∷ key ∷ wd ∷ text ∷ five ∷ more) same = refl

-- the words of a DROP
pub drop_read : (words : Words) → length words ≡ 3 → same_name (word 0 words) drop_name ≡ is_drop words
unfolding word
drop_read [] three = absurd (omega arith)
drop_read (name ∷ []) three = absurd (omega arith)
drop_read (name ∷ key ∷ []) three = absurd (omega arith)
drop_read (name ∷ key ∷ wd ∷ []) three = refl
drop_read (name ∷ key ∷ wd ∷ four ∷ more) three = absurd (omega arith)

positive_case : (text : Bytes) (o : Option ℤ) → i64_of text ≡ o → (n : ℕ) → positive o ≡ Some n
    → is_count n ≡ true
positive_case text None read n is = absurd (none-some n is)
positive_case text (Some (pos zero)) read n is = absurd (none-some n is)
positive_case text (Some (negsuc k)) read n is = absurd (none-some n is)
positive_case text (Some (pos (suc k))) read n is =
    let fits = (i64_of-only text (pos (suc k)) read).0 in
    subst (λ m. is_count m ≡ true) (same_Some (suc k) n is)
    (is_small (suc k) (omega arith) (omega (arith, ints, fits)))

-- a number from 1 on that is read is a count
pub positive_count : (text : Bytes) (n : ℕ) → positive (i64_of text) ≡ Some n → is_count n ≡ true
positive_count text n is = positive_case text (i64_of text) refl n is

to_set_case : (b : Bool) (text : Bytes) (n : ℕ)
    → (if b then positive (i64_of text) else None) ≡ Some n → is_count n ≡ true
to_set_case true text n is = positive_count text n is
to_set_case false text n is = absurd (none-some n is)

pub to_set_count : (words : Words) (n : ℕ) → to_set words ≡ Some n → is_count n ≡ true
to_set_count [] n is = absurd (none-some n is)
to_set_count (name ∷ []) n is = absurd (none-some n is)
to_set_count (name ∷ key ∷ []) n is = absurd (none-some n is)
to_set_count (name ∷ key ∷ wd ∷ []) n is = absurd (none-some n is)
to_set_count (name ∷ key ∷ wd ∷ text ∷ []) n is =
    to_set_case (bytes_eq (map to_ascii_uppercase name) set_name) text n is
to_set_count (name ∷ key ∷ wd ∷ text ∷ five ∷ more) n is = absurd (none-some n is)

-- what a GET does is to answer
pub gets_only : (seen : Seen) (wd : Bytes) (cs : Option (List Counted))
    → gets seen wd cs ≡ answers_only (gets seen wd cs).answer seen
gets_only seen wd None = refl
gets_only seen wd (Some cs) = refl

-- the SET of a word with its count
abbrev pub set_of : Bytes → Counted → Effect
set_of key c = record { words = set_words key c.word c.count }

value_back : (cs : List Counted) → are_counts cs ≡ true → counts_or_none (value_of cs) ≡ cs
value_back [] rises = refl
value_back (c ∷ cs) rises = counts_back (c ∷ cs) rises

count_there : (last : Option Bytes) (done : List Counted) (c : Counted) (cs : List Counted)
    → counts_rise last (done ++ c ∷ cs) ≡ true → is_count c.count ≡ true
count_there last [] c cs rises = (counts_by last c cs rises).count
count_there last (d ∷ ds) c cs rises =
    count_there (Some d.word) ds c cs (counts_by last d (ds ++ c ∷ cs) rises).behind

-- each SET adds its word at the end
after_each : (key : Bytes) (done cs : List Counted) → are_counts (done ++ cs) ≡ true
    → after_all wordcount (value_of done) (map (set_of key) cs) ≡ Some (value_of (done ++ cs))
unfolding word
after_each key done [] rises = ap (λ l. Some (value_of l)) (sym (append-nil done))
after_each key done (c ∷ cs) rises =
    let more = map (set_of key) cs in
    let joined : done ++ c ∷ cs ≡ (done ++ c ∷ []) ++ cs = sym (append_assoc done (c ∷ []) cs) in
    let first : are_counts (done ++ c ∷ []) ≡ true = first_counts None (done ++ c ∷ []) cs
    (subst (λ l. are_counts l ≡ true) joined rises) in
    let there : are_counts done ≡ true = first_counts None done (c ∷ []) first in
    let small = count_small c.count (count_there None done c cs rises) in
    ap (λ o. option_and_then (λ made. after_all wordcount made more)
    (option_map value_of (edits_where o false c.word (counts_or_none (value_of done)))))
    (decimal_read c.count small.0 small.1)
    ∙ ap (λ l. after_all wordcount (value_of l) more)
    (ap (with_count c.word c.count) (value_back done there) ∙ with_last None c.word c.count done first)
    ∙ after_each key (done ++ c ∷ []) cs (subst (λ l. are_counts l ≡ true) joined rises)
    ∙ ap (λ l. Some (value_of l)) (sym joined)

is_string : (wd : Bytes) → nat_le (length wd) longest ≡ true → IsString wd
is_string wd short = grind (arith, nat_tests)

own_each : (key : Bytes) (last : Option Bytes) (cs : List Counted) → IsString key
    → counts_rise last cs ≡ true → short_words cs ≡ true
    → AllByRecursion (IsOwnEffect wordcount key) (map (set_of key) cs)
own_each key last [] short rises words = tt
own_each key last (c ∷ cs) short rises words =
    let by = counts_by last c cs rises in
    let parted = both (nat_le (length c.word) longest) (short_words cs) words in
    let small = count_small c.count by.count in (
      record {
        row = record { name = set_name; arity = pos 4; writes = true; key = 1 };
        named = refl;
        writes = refl;
        keyed = refl;
        small = set_limits key c.word c.count short (is_string c.word parted.0) (omega (arith, small.1));
      },
      own_each key (Some c.word) cs short by.behind parted.1,
    )

-- one SET for each word builds a value again
pub rebuilds : (key : Bytes) (cs : List Counted) → IsString key → some_counts cs ≡ true
    → list_all is_short (saved_counts cs) ≡ true
    → Rebuilds wordcount key (saved_counts cs) (map (set_of key) cs)
rebuilds key [] short some words = absurd (true≢false (sym some))
rebuilds key (c ∷ cs) short some words = record {
  some = omega arith;
  own = own_each key None (c ∷ cs) short some (sym (parts_short (c ∷ cs)) ∙ words);
  built = after_each key [] (c ∷ cs) some;
}

-- a key that has words, and what it has of one
pub record HasWord (wd : Bytes) (cs : Option (List Counted)) (count : Option ℕ) : Type 0 where
  pub there : cs ≡ Some (unwrap_or cs [])
  pub found : count_at wd (unwrap_or cs []) ≡ count

pub has_word : (wd : Bytes) (cs : Option (List Counted)) (count : Option ℕ)
    → option_map (count_at wd) cs ≡ Some count → HasWord wd cs count
has_word wd None count is = absurd (none-some count is)
has_word wd (Some cs) count is =
    record { there = refl; found = same_Some (count_at wd cs) count is }

pub some_count : (count : Option ℕ) → is_some count ≡ true → count ≡ Some (unwrap_or count 0)
some_count None is = absurd (true≢false (sym is))
some_count (Some n) is = refl

-- a SET that is applied to a value
pub applied_set : (wd : Bytes) (n : ℕ) (cs new : List Counted) → some_counts cs ≡ true
    → is_count n ≡ true → new ≡ with_count wd n cs
    → Some (value_of (with_count wd n (counts_of (saved_counts cs)))) ≡ Some (Some (saved_counts new))
applied_set wd n cs new some count made =
    ap (λ l. Some (value_of (with_count wd n l))) (counts_back cs some)
    ∙ ap (λ v. Some v) (value_is (with_count wd n cs) (some_with wd n cs (some_rise cs some) count))
    ∙ ap (λ l. Some (Some (saved_counts l))) (sym made)

edits_case : (b : Bool) (wd : Bytes) (cs : List Counted) (count : Option ℕ) → (b && is_some count) ≡ false
    → count_at wd cs ≡ count → edits_where None b wd cs ≡ None
edits_case false wd cs count not is = refl
edits_case true wd cs None not is = ap (option_map (λ n. without_word wd cs)) is
edits_case true wd cs (Some n) not is = absurd (true≢false not)

-- words of no SET and no DROP of a word that is there make nothing
pub no_edit : (words : Words) (cs : List Counted) → some_counts cs ≡ true → to_set words ≡ None
    → (is_drop words && is_some (count_at (word 2 words) cs)) ≡ false
    → count_after (Some (saved_counts cs)) words ≡ None
no_edit words cs some none not =
    ap (λ l. option_map value_of (edits l words)) (counts_back cs some)
    ∙ ap (λ o. option_map value_of (edits_where o (is_drop words) (word 2 words) cs)) none
    ∙ ap (option_map value_of) (edits_case (is_drop words) (word 2 words) cs (count_at (word 2 words) cs) not refl)

dropped_case : (b : Bool) (wd : Bytes) (cs : List Counted) (count : Option ℕ) → (b && is_some count) ≡ true
    → count_at wd cs ≡ count → edits_where None b wd cs ≡ Some (without_word wd cs)
dropped_case false wd cs count both is = absurd (true≢false (sym both))
dropped_case true wd cs None both is = absurd (true≢false (sym both))
dropped_case true wd cs (Some n) both is = ap (option_map (λ k. without_word wd cs)) is

-- a DROP of a word that is there
pub drop_edit : (words : Words) (cs : List Counted) → some_counts cs ≡ true → to_set words ≡ None
    → (is_drop words && is_some (count_at (word 2 words) cs)) ≡ true
    → count_after (Some (saved_counts cs)) words ≡ Some (value_of (without_word (word 2 words) cs))
drop_edit words cs some none both =
    ap (λ l. option_map value_of (edits l words)) (counts_back cs some)
    ∙ ap (λ o. option_map value_of (edits_where o (is_drop words) (word 2 words) cs)) none
    ∙ ap (option_map value_of) (dropped_case (is_drop words) (word 2 words) cs (count_at (word 2 words) cs) both refl)

there_by : (b : Bool) (count : Option ℕ) → (b && is_some count) ≡ true → IsSome count
there_by true count is = is
there_by false count is = absurd (true≢false (sym is))

pub drop_there : (words : Words) (cs : List Counted)
    → (is_drop words && is_some (count_at (word 2 words) cs)) ≡ true
    → IsSome (count_at (word 2 words) cs)
drop_there words cs is = there_by (is_drop words) (count_at (word 2 words) cs) is

pub counts_rising : (cs : List Counted) → some_counts cs ≡ true → are_counts cs ≡ true
counts_rising cs some = some_rise cs some
