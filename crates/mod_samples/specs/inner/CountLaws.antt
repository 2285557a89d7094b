-- That wordcount obeys the laws of a module.
use Rattle.std.proofs.Common.{◌≡◌, ℕ, suc, zero, ◌+◌, ◌<◌, ◌≤◌, ◌^◌, pos, Bool, true, false, List, [], ◌∷◌, length, map, Option, Some, None, Result, Ok, Err, refl, sym, ap, subst, ◌∙◌, true≢false, arith, if◌then◌else◌}
use Rattle.std.specs.Prelude.{◌==◌, FitsSigned, nat_le, nat_lt, not, IsTrue}
use Rattle.std.specs.Char.{to_ascii_uppercase}
use Rattle.std.specs.Cmp.Lexicographic.{bytes_decides}
use Rattle.std.specs.Fmt.{decimal}
use Rattle.std.specs.Int.{w64}
use Rattle.std.specs.List.{AllByRecursion, list_all}
use Rattle.std.specs.Option.{option_map, unwrap_or}
use Rattle.std.specs.Ordering.{match_ordering}
use Rattle.std.specs.Str.{bytes_eq}
use Rattle.std.specs.declared.cmp.Ordering.{Ordering}
use Rattle.std.specs.declared.cmp.Ordering.TheVariants.{Less, Equal, Greater}
use Rattle.std.proofs.lemmas.Bool.Decides.{nat_tests}
use Rattle.std.proofs.lemmas.Int.{ints}
use Rattle.std.proofs.lemmas.List.{length-map}
use Rattle.std.proofs.lemmas.Option.{none-some, same_Some}
use Rattle.byte_text.proofs.Decimals.{decimal-short, i64_of-decimal}
use Rattle.byte_text.specs.Number.{i64_of}
use Rattle.core_types.specs.CommandRow.{CommandRow, takes}
use Rattle.sequences.specs.Words.{word}
use Rattle.core_types.specs.Keys.{Native, value_at}
use Rattle.core_types.specs.Keyspace.{IsString, longest}
use Rattle.core_types.specs.declared.load_fault.LoadFault.{LoadFault}
use Rattle.core_types.specs.declared.refusal.Refusal.TheVariants as refusal
use Rattle.core_types.specs.declared.reply.Reply.{Reply}
use Rattle.core_types.specs.declared.reply.Reply.TheVariants as reply
use Rattle.type_ids.proofs.Names.{named-found}
use Rattle.module_laws.specs.Laws.{AreCommands, IsCall, IsDone, IsFullOrNone, IsLawful, IsSound}
use Rattle.core_types.specs.Limits.{IsWithinLimits}
use Rattle.module_laws.specs.Meaning.{type_of}
use Rattle.module_laws.specs.Named.{command_name, row_named}
use Rattle.module_laws.specs.Replay.{own_value}
use Rattle.module_laws.specs.Told.{Seen}
use Rattle.module_laws.specs.Types.{is_full, is_short}
use Rattle.module_laws.specs.Words.{Bytes, Words, Saved}
use Rattle.mod_samples.specs.Changes.{refuses}
use Rattle.mod_samples.specs.CountParts.{count_loads, counts_again, counts_in, saved_counts}
use Rattle.mod_samples.specs.Counts.{Counted, count_at, counted, is_word, some_counts, with_count, without_word, word_order}
use Rattle.mod_samples.specs.WordCount.{add_name, adds, are_no_words, count_name, count_rows, count_says, counts_at, counts_or_none, drop_name, drops, drops_found, edits, edits_where, gets, is_drop, positive, puts, set_name, set_words, sets, to_set, value_of, wordcount}
use Rattle.mod_samples.specs.Words.{own}
use Rattle.mod_samples.specs.inner.Changing.{change_done, own_full, unchanged}
use Rattle.mod_samples.specs.inner.CountsBack.{counts_of_short, counts_read_back, parts_short, read_short, short_words}
use Rattle.mod_samples.specs.inner.ReadBack.{err-ok, same_Ok}
use Rattle.mod_samples.specs.inner.Rises.{both, both_true}

-- what was saved is read back
pub count_reads_back : (cs : List Counted) → some_counts cs ≡ true
    → count_loads (saved_counts cs) 0 ≡ Ok (saved_counts cs)
count_reads_back cs some = ap counts_again (counts_read_back cs some)

pub count_commands : AreCommands count_rows
count_commands = record {
  each = (
    record { upper = refl; dotted = refl; keyed = λ is. omega arith },
    (
      record { upper = refl; dotted = refl; keyed = λ is. omega arith },
      (
        record { upper = refl; dotted = refl; keyed = λ is. omega arith },
        (record { upper = refl; dotted = refl; keyed = λ is. omega arith }, tt),
      ),
    ),
  );
  distinct = refl;
  few = omega arith;
}

-- a word that is short leaves short words
with_case : (word : Bytes) (n : ℕ) (c : Counted) (cs : List Counted) (o : Ordering)
    → nat_le (length word) longest ≡ true → short_words (c ∷ cs) ≡ true
    → short_words (with_count word n cs) ≡ true
    → short_words (match_ordering o (counted word n ∷ c ∷ cs) (counted c.word n ∷ cs)
    (c ∷ with_count word n cs)) ≡ true
with_case word n c cs Less short all rest =
    both_true (nat_le (length word) longest) (short_words (c ∷ cs)) short all
with_case word n c cs Equal short all rest = all
with_case word n c cs Greater short all rest =
    both_true (nat_le (length c.word) longest) (short_words (with_count word n cs))
    (both (nat_le (length c.word) longest) (short_words cs) all).0 rest

with_short : (word : Bytes) (n : ℕ) (cs : List Counted) → nat_le (length word) longest ≡ true
    → short_words cs ≡ true → short_words (with_count word n cs) ≡ true
with_short word n [] short all = both_true (nat_le (length word) longest) true short refl
with_short word n (c ∷ cs) short all =
    with_case word n c cs (word_order word c.word) short all
    (with_short word n cs short (both (nat_le (length c.word) longest) (short_words cs) all).1)

without_case : (word : Bytes) (c : Counted) (cs : List Counted) (b : Bool)
    → short_words (c ∷ cs) ≡ true → short_words (without_word word cs) ≡ true
    → short_words (if b then cs else c ∷ without_word word cs) ≡ true
without_case word c cs true all rest =
    (both (nat_le (length c.word) longest) (short_words cs) all).1
without_case word c cs false all rest =
    both_true (nat_le (length c.word) longest) (short_words (without_word word cs))
    (both (nat_le (length c.word) longest) (short_words cs) all).0 rest

without_short : (word : Bytes) (cs : List Counted) → short_words cs ≡ true
    → short_words (without_word word cs) ≡ true
without_short word [] all = refl
without_short word (c ∷ cs) all =
    without_case word c cs (is_word word c.word) all
    (without_short word cs (both (nat_le (length c.word) longest) (short_words cs) all).1)

is_short_word : (word : Bytes) → IsString word → nat_le (length word) longest ≡ true
is_short_word word short = grind (arith, nat_tests)

-- short words are a value that a key may have, or none
pub value_full : (cs : List Counted) → short_words cs ≡ true → IsFullOrNone wordcount (value_of cs)
value_full [] short = tt
value_full (c ∷ cs) short = parts_short (c ∷ cs) ∙ short

-- the words of a value that a key may have are short
pub old_short : (old : Option Saved) → IsFullOrNone wordcount old
    → short_words (counts_or_none old) ≡ true
old_short None full = refl
old_short (Some items) full =
    counts_of_short items (both (not (are_no_words items)) (list_all is_short items) full).1

pub with_full : (old : Option Saved) (word : Bytes) (n : ℕ) → IsFullOrNone wordcount old
    → IsString word → IsFullOrNone wordcount (value_of (with_count word n (counts_or_none old)))
with_full old word n full short =
    value_full (with_count word n (counts_or_none old))
    (with_short word n (counts_or_none old) (is_short_word word short) (old_short old full))

pub without_full : (old : Option Saved) (word : Bytes) → IsFullOrNone wordcount old
    → IsFullOrNone wordcount (value_of (without_word word (counts_or_none old)))
without_full old word full =
    value_full (without_word word (counts_or_none old))
    (without_short word (counts_or_none old) (old_short old full))

-- how many words each command has
abbrev HasWords : CommandRow → ℕ → Type 0
HasWords row count = IsTrue (takes row.arity count)

three_words : (count : ℕ) → IsTrue (count == 3) → count ≡ 3
three_words count takes = grind (arith, nat_tests)

four_words : (count : ℕ) → IsTrue (count == 4) → count ≡ 4
four_words count takes = grind (arith, nat_tests)

called_row : (words : Words) (call : IsCall count_rows words) (name : Bytes) (row : CommandRow)
    → bytes_eq (command_name words) name ≡ true → row_named name count_rows ≡ Some row
    → HasWords row (length words)
called_row words call name row is named =
    let same : command_name words ≡ name = (bytes_decides (command_name words) name).0 is in
    let rows : Some row ≡ Some call.row =
    sym named ∙ subst (λ nm. row_named nm count_rows ≡ Some call.row) same call.named in
    subst (λ r. HasWords r (length words)) (sym (same_Some row call.row rows)) call.arity

positive_some : (n : ℕ) → 1 ≤ n → positive (Some (pos n)) ≡ Some n
positive_some zero some = absurd (omega arith)
positive_some (suc n) some = refl

-- the decimal of a count is read as that count
pub decimal_read : (n : ℕ) → 1 ≤ n → n < 2 ^ 63 → positive (i64_of (decimal n)) ≡ Some n
decimal_read n some few =
    let fits : FitsSigned w64 (pos n) = omega (arith, ints) in
    ap positive (i64_of-decimal (pos n) fits) ∙ positive_some n some

below : (n : ℕ) → nat_lt n (2 ^ 63) ≡ true → n < 2 ^ 63
below n h = grind (arith, nat_tests)

-- each word is within the limits
pub word_short : (place : ℕ) (words : Words) → AllByRecursion IsString words
    → IsString (word place words)
unfolding word
word_short place [] each = omega arith
word_short zero (w ∷ words) each = each.0
word_short (suc place) (w ∷ words) each = word_short place words each.1

-- the SET of a count is within the limits
pub set_limits : (key word : Bytes) (n : ℕ) → IsString key → IsString word → n < 2 ^ 64
    → IsWithinLimits (set_words key word n)
set_limits key word n key_short word_short small = record {
  some = omega arith;
  few = omega arith;
  each = (omega arith, (key_short, (word_short, (omega (arith, (decimal-short n small).few), tt))));
}

module _ (allowed : Native → Bool) (seen : Seen)
    (sound : IsSound (type_of wordcount ∷ []) allowed seen) where
  gets_done : (word : Bytes) (cs : Option (List Counted))
      → IsDone (wordcount ∷ []) allowed seen (gets seen word cs)
  gets_done word None = unchanged wordcount refl allowed seen sound _
  gets_done word (Some cs) = unchanged wordcount refl allowed seen sound _

  sets_done : (key wd text : Bytes) (n : ℕ) (old : Option Saved) (said : Reply)
      → IsWithinLimits (set_name ∷ key ∷ wd ∷ text ∷ []) → positive (i64_of text) ≡ Some n
      → own_value count_name (value_at seen.keys key) ≡ Some old
      → IsDone (wordcount ∷ []) allowed seen
      (sets seen (set_name ∷ key ∷ wd ∷ text ∷ []) n (counts_or_none old) said)
  unfolding word
  sets_done key wd text n old said limits read was =
      change_done wordcount refl allowed seen sound set_name key (wd ∷ text ∷ []) old
      (value_of (with_count wd n (counts_or_none old))) _ _ limits refl was
      (ap (λ o. option_map value_of (edits_where o false wd (counts_or_none old))) read)
      (with_full old wd n (own_full wordcount refl allowed seen sound key old was) limits.each.1.1.0)

  add_case : (key wd : Bytes) (n : ℕ) (old : Option Saved) (b : Bool) → IsString key → IsString wd
      → 1 ≤ n → nat_lt n (2 ^ 63) ≡ b
      → own_value count_name (value_at seen.keys key) ≡ Some old
      → IsDone (wordcount ∷ []) allowed seen (if b then sets seen (set_words key wd n) n
      (counts_or_none old) (reply.Int (pos n)) else refuses seen refusal.Overflow)
  add_case key wd n old true key_short wd_short some few was =
      let small = below n few in
      sets_done key wd (decimal n) n old _ (set_limits key wd n key_short wd_short (omega arith))
      (decimal_read n some small) was
  add_case key wd n old false key_short wd_short some few was =
      unchanged wordcount refl allowed seen sound _

  adds_done : (key wd : Bytes) → IsString key → IsString wd → (old : Option (Option Saved))
      → own_value count_name (value_at seen.keys key) ≡ old
      → IsDone (wordcount ∷ []) allowed seen (adds seen key wd (option_map counts_or_none old))
  adds_done key wd key_short wd_short None was = unchanged wordcount refl allowed seen sound _
  adds_done key wd key_short wd_short (Some old) was =
      let n : ℕ = unwrap_or (count_at wd (counts_or_none old)) 0 + 1 in
      add_case key wd n old (nat_lt n (2 ^ 63)) key_short wd_short (omega arith) refl was

  puts_done : (key wd text : Bytes) → IsWithinLimits (set_name ∷ key ∷ wd ∷ text ∷ [])
      → (n : Option ℕ) → positive (i64_of text) ≡ n → (old : Option (Option Saved))
      → own_value count_name (value_at seen.keys key) ≡ old
      → IsDone (wordcount ∷ []) allowed seen
      (puts seen (set_name ∷ key ∷ wd ∷ text ∷ []) n (option_map counts_or_none old))
  puts_done key wd text limits None read old was = unchanged wordcount refl allowed seen sound _
  puts_done key wd text limits (Some n) read None was =
      unchanged wordcount refl allowed seen sound _
  puts_done key wd text limits (Some n) read (Some old) was =
      sets_done key wd text n old _ limits read was

  found_done : (key wd : Bytes) → IsWithinLimits (drop_name ∷ key ∷ wd ∷ []) → (old : Option Saved)
      → own_value count_name (value_at seen.keys key) ≡ Some old → (n : Option ℕ)
      → count_at wd (counts_or_none old) ≡ n
      → IsDone (wordcount ∷ []) allowed seen (drops_found seen (drop_name ∷ key ∷ wd ∷ [])
      (option_map (λ k. without_word wd (counts_or_none old)) n))
  unfolding word
  found_done key wd limits old was None there = unchanged wordcount refl allowed seen sound _
  found_done key wd limits old was (Some n) there =
      change_done wordcount refl allowed seen sound drop_name key (wd ∷ []) old
      (value_of (without_word wd (counts_or_none old))) _ _ limits refl was
      (ap (λ o. option_map value_of (option_map (λ k. without_word wd (counts_or_none old)) o)) there)
      (without_full old wd (own_full wordcount refl allowed seen sound key old was))

  drops_done : (key wd : Bytes) → IsWithinLimits (drop_name ∷ key ∷ wd ∷ [])
      → (old : Option (Option Saved)) → own_value count_name (value_at seen.keys key) ≡ old
      → IsDone (wordcount ∷ []) allowed seen
      (drops seen (drop_name ∷ key ∷ wd ∷ []) (option_map counts_or_none old))
  unfolding word
  drops_done key wd limits None was = unchanged wordcount refl allowed seen sound _
  drops_done key wd limits (Some old) was =
      found_done key wd limits old was (count_at wd (counts_or_none old)) refl

  put_case : (words : Words) → IsWithinLimits words → length words ≡ 4
      → bytes_eq (word 0 words) set_name ≡ true → IsDone (wordcount ∷ []) allowed seen
      (puts seen words (positive (i64_of (word 3 words))) (counts_at seen.keys (word 1 words)))
  unfolding word
  put_case [] limits four is = absurd (omega arith)
  put_case (name ∷ []) limits four is = absurd (omega arith)
  put_case (name ∷ key ∷ []) limits four is = absurd (omega arith)
  put_case (name ∷ key ∷ wd ∷ []) limits four is = absurd (omega arith)
  put_case (name ∷ key ∷ wd ∷ text ∷ []) limits four is =
      let same : name ≡ set_name = (bytes_decides name set_name).0 is in
      subst (λ nm. IsDone (wordcount ∷ []) allowed seen (puts seen (nm ∷ key ∷ wd ∷ text ∷ [])
      (positive (i64_of text)) (counts_at seen.keys key))) (sym same)
      (puts_done key wd text (subst (λ nm. IsWithinLimits (nm ∷ key ∷ wd ∷ text ∷ [])) same limits)
      (positive (i64_of text)) refl (own_value count_name (value_at seen.keys key)) refl)
  put_case (name ∷ key ∷ wd ∷ text ∷ other ∷ more) limits four is = absurd (omega arith)

  drop_case : (words : Words) → IsWithinLimits words → length words ≡ 3
      → bytes_eq (word 0 words) drop_name ≡ true → IsDone (wordcount ∷ []) allowed seen
      (drops seen words (counts_at seen.keys (word 1 words)))
  unfolding word
  drop_case [] limits three is = absurd (omega arith)
  drop_case (name ∷ []) limits three is = absurd (omega arith)
  drop_case (name ∷ key ∷ []) limits three is = absurd (omega arith)
  drop_case (name ∷ key ∷ wd ∷ []) limits three is =
      let same : name ≡ drop_name = (bytes_decides name drop_name).0 is in
      subst (λ nm. IsDone (wordcount ∷ []) allowed seen (drops seen (nm ∷ key ∷ wd ∷ [])
      (counts_at seen.keys key))) (sym same)
      (drops_done key wd (subst (λ nm. IsWithinLimits (nm ∷ key ∷ wd ∷ [])) same limits)
      (own_value count_name (value_at seen.keys key)) refl)
  drop_case (name ∷ key ∷ wd ∷ other ∷ more) limits three is = absurd (omega arith)

  other_case : (words : Words) → IsWithinLimits words → (b : Bool)
      → bytes_eq (word 0 words) drop_name ≡ b → (b ≡ true → length words ≡ 3)
      → IsDone (wordcount ∷ []) allowed seen
      (if b then drops seen words (counts_at seen.keys (word 1 words))
      else gets seen (word 2 words) (counts_at seen.keys (word 1 words)))
  other_case words limits true is three = drop_case words limits (three refl) is
  other_case words limits false is three = gets_done _ _

  set_case : (words : Words) → IsWithinLimits words → (b : Bool)
      → bytes_eq (word 0 words) set_name ≡ b → (b ≡ true → length words ≡ 4)
      → (bytes_eq (word 0 words) drop_name ≡ true → length words ≡ 3)
      → IsDone (wordcount ∷ []) allowed seen
      (if b then puts seen words (positive (i64_of (word 3 words)))
      (counts_at seen.keys (word 1 words))
      else (if bytes_eq (word 0 words) drop_name
      then drops seen words (counts_at seen.keys (word 1 words))
      else gets seen (word 2 words) (counts_at seen.keys (word 1 words))))
  set_case words limits true is four three = put_case words limits (four refl) is
  set_case words limits false is four three =
      other_case words limits (bytes_eq (word 0 words) drop_name) refl three

  says_case : (words : Words) → IsWithinLimits words → (b : Bool)
      → bytes_eq (word 0 words) add_name ≡ b
      → (bytes_eq (word 0 words) set_name ≡ true → length words ≡ 4)
      → (bytes_eq (word 0 words) drop_name ≡ true → length words ≡ 3)
      → IsDone (wordcount ∷ []) allowed seen (count_says seen words)
  says_case words limits true is four three =
      rw is (adds_done (word 1 words) (word 2 words) (word_short 1 words limits.each)
      (word_short 2 words limits.each) (own_value count_name (value_at seen.keys (word 1 words))) refl)
  says_case words limits false is four three =
      rw is (set_case words limits (bytes_eq (word 0 words) set_name) refl four three)

  pub says_done : (words : Words) → IsCall count_rows words
      → IsDone (wordcount ∷ []) allowed seen (count_says seen (own words))
  unfolding word
  says_done [] call = absurd (omega (arith, call.limits.some))
  says_done (name ∷ words) call =
      let upper = map to_ascii_uppercase name in
      says_case (upper ∷ words) (record {
        some = omega arith;
        few = call.limits.few;
        each = (omega (arith, length-map name to_ascii_uppercase, call.limits.each.0), call.limits.each.1);
      }) (bytes_eq upper add_name) refl
      (λ is. four_words (length (name ∷ words)) (called_row (name ∷ words) call set_name _ is refl))
      (λ is. three_words (length (name ∷ words)) (called_row (name ∷ words) call drop_name _ is refl))

dropped_short : (wd : Bytes) (cs new : List Counted) (n : Option ℕ) → short_words cs ≡ true
    → option_map (λ k. without_word wd cs) n ≡ Some new → short_words new ≡ true
dropped_short wd cs new None short is = absurd (none-some new is)
dropped_short wd cs new (Some n) short is =
    subst (λ list. short_words list ≡ true) (same_Some (without_word wd cs) new is)
    (without_short wd cs short)

edits_case : (n : Option ℕ) (b : Bool) (wd : Bytes) (cs new : List Counted) → IsString wd
    → short_words cs ≡ true → edits_where n b wd cs ≡ Some new → short_words new ≡ true
edits_case (Some n) b wd cs new wd_short short is =
    subst (λ list. short_words list ≡ true) (same_Some (with_count wd n cs) new is)
    (with_short wd n cs (is_short_word wd wd_short) short)
edits_case None true wd cs new wd_short short is =
    dropped_short wd cs new (count_at wd cs) short is
edits_case None false wd cs new wd_short short is = absurd (none-some new is)

pub edits_short : (cs new : List Counted) (words : Words) → IsWithinLimits words
    → short_words cs ≡ true → edits cs words ≡ Some new → short_words new ≡ true
edits_short cs new words limits short is =
    edits_case (to_set words) (is_drop words) (word 2 words) cs new (word_short 2 words limits.each) short is

pub after_case : (items : Saved) (new : Option (List Counted))
    → ((cs : List Counted) → new ≡ Some cs → short_words cs ≡ true)
    → option_map value_of new ≡ Some (Some items) → is_full (type_of wordcount) items ≡ true
after_case items None short is = absurd (none-some (Some items) is)
after_case items (Some cs) short is =
    subst (IsFullOrNone wordcount) (same_Some (value_of cs) (Some items) is) (value_full cs (short cs refl))

again_case : (r : Result (List Counted) LoadFault) (value : Saved)
    → ((cs : List Counted) → r ≡ Ok cs → short_words cs ≡ true) → counts_again r ≡ Ok value
    → list_all is_short value ≡ true
again_case (Err why) value short is = absurd (err-ok is)
again_case (Ok cs) value short is =
    subst (λ v. list_all is_short v ≡ true) (same_Ok (saved_counts cs) value is)
    (parts_short cs ∙ short cs refl)

pub loads_short : (items : Saved) (version : ℕ) (value : Saved) → list_all is_short items ≡ true
    → count_loads items version ≡ Ok value → list_all is_short value ≡ true
loads_short items (suc version) value short is = absurd (err-ok is)
loads_short items zero value short is =
    again_case (counts_in items) value (λ cs read. read_short items cs read short) is
