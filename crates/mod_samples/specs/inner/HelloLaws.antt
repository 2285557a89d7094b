-- That hellotype obeys the laws of a module.
use Rattle.std.proofs.Common.{◌≡◌, ℕ, ◌≤◌, ℤ, pos, Bool, true, false, List, [], ◌∷◌, length, map, Option, Some, None, Result, Ok, Err, refl, sym, ap, subst, true≢false, arith, if◌then◌else◌}
use Rattle.std.specs.Prelude.{◌==◌, FitsSigned, int_lt, nat_lt, IsTrue}
use Rattle.std.specs.Char.{to_ascii_uppercase}
use Rattle.std.specs.Cmp.Lexicographic.{bytes_decides}
use Rattle.std.specs.Fmt.{signed_decimal}
use Rattle.std.specs.Int.{w64}
use Rattle.std.specs.List.{AllByRecursion, list_all}
use Rattle.std.specs.Option.{option_map}
use Rattle.std.specs.Str.{bytes_eq}
use Rattle.std.proofs.lemmas.Bool.Decides.{nat_tests}
use Rattle.std.proofs.lemmas.Int.{ints}
use Rattle.std.proofs.lemmas.List.{length-map}
use Rattle.std.proofs.lemmas.Option.{none-some, same_Some}
use Rattle.byte_text.proofs.Decimals.{i64_of-decimal, signed_decimal-short}
use Rattle.byte_text.specs.Number.{i64_of}
use Rattle.core_types.specs.CommandRow.{CommandRow, takes, writing}
use Rattle.sequences.specs.Words.{word}
use Rattle.core_types.specs.Keys.{Native, value_at}
use Rattle.core_types.specs.declared.load_fault.LoadFault.{LoadFault}
use Rattle.core_types.specs.declared.load_fault.LoadFault.TheVariants as load_fault
use Rattle.type_ids.proofs.Names.{named-found}
use Rattle.module_laws.specs.Laws.{AreCommands, IsCall, IsDone, IsLawful, IsReply, IsSound, IsWriting, IsWritten}
use Rattle.core_types.specs.Limits.{IsWithinLimits}
use Rattle.module_laws.specs.Meaning.{type_of}
use Rattle.module_laws.specs.Named.{command_name, row_named}
use Rattle.module_laws.specs.Replay.{own_value}
use Rattle.module_laws.specs.Told.{Seen}
use Rattle.module_laws.specs.Types.{is_full, is_short}
use Rattle.module_laws.specs.Words.{Bytes, Words, Saved}
use Rattle.mod_samples.specs.HelloNumbers.{hello_loads, numbers_in, saved_again, saved_numbers}
use Rattle.mod_samples.specs.HelloType.{hello_name, hello_rows, hello_says, hellotype, insert_name, inserts, lengths, numbers_at, numbers_or_none, range_name, ranges, natural, to_insert}
use Rattle.mod_samples.specs.Rising.{inserted, is_rising}
use Rattle.mod_samples.specs.Words.{own}
use Rattle.mod_samples.specs.inner.Changing.{change_done, reply_either, unchanged}
use Rattle.mod_samples.specs.inner.ReadBack.{err-ok, read_back, same_Ok, saved_short}

-- what was saved is read back
pub hello_reads_back : (ns : List ℤ) → is_rising ns ≡ true
    → hello_loads (saved_numbers ns) 1 ≡ Ok (saved_numbers ns)
hello_reads_back ns rising = ap saved_again (read_back ns rising)

hello_commands : AreCommands hello_rows
hello_commands = record {
  each = (
    record { upper = refl; dotted = refl; keyed = λ is. omega arith },
    (
      record { upper = refl; dotted = refl; keyed = λ is. omega arith },
      (record { upper = refl; dotted = refl; keyed = λ is. omega arith }, tt),
    ),
  );
  distinct = refl;
  few = omega arith;
}

-- a list with a number is one that a key may have
cons_full : (n : ℤ) (ns : List ℤ) → is_full (type_of hellotype) (saved_numbers (n ∷ ns)) ≡ true
cons_full n ns = saved_short (n ∷ ns)

full_case : (n m : ℤ) (ms : List ℤ) (b : Bool) → is_full (type_of hellotype)
    (saved_numbers (if b then m ∷ inserted n ms else n ∷ m ∷ ms)) ≡ true
full_case n m ms true = cons_full m (inserted n ms)
full_case n m ms false = cons_full n (m ∷ ms)

pub inserted_full : (n : ℤ) (ns : List ℤ)
    → is_full (type_of hellotype) (saved_numbers (inserted n ns)) ≡ true
inserted_full n [] = cons_full n []
inserted_full n (m ∷ ms) = full_case n m ms (int_lt m n)

-- each command has a key
abbrev IsLong : CommandRow → Type 0
IsLong row = (count : ℕ) → IsTrue (takes row.arity count) → 2 ≤ count

exactly : (k count : ℕ) → 2 ≤ k → IsTrue (count == k) → 2 ≤ count
exactly k count two takes = grind (arith, nat_tests)

each_long : AllByRecursion IsLong hello_rows
each_long = (
  λ count is. exactly 3 count (omega arith) is,
  (λ count is. exactly 4 count (omega arith) is, (λ count is. exactly 2 count (omega arith) is, tt)),
)

three_words : (count : ℕ) → IsTrue (count == 3) → count ≡ 3
three_words count takes = grind (arith, nat_tests)

-- an INSERT has three words
insert_words : (words : Words) → IsCall hello_rows words
    → bytes_eq (command_name words) insert_name ≡ true → length words ≡ 3
insert_words words call is =
    let same : command_name words ≡ insert_name = (bytes_decides (command_name words) insert_name).0 is in
    let row : Some (writing insert_name (pos 3)) ≡ Some call.row =
    subst (λ name. row_named name hello_rows ≡ Some call.row) same call.named in
    three_words (length words) (subst (λ r. IsTrue (takes r.arity (length words))) (sym (same_Some _ call.row row)) call.arity)

module _ (allowed : Native → Bool) (seen : Seen)
    (sound : IsSound (type_of hellotype ∷ []) allowed seen) where
  ranges_done : (first count : Option ℕ) (ns : Option (List ℤ))
      → IsDone (hellotype ∷ []) allowed seen (ranges seen first count ns)
  ranges_done None None ns = unchanged hellotype refl allowed seen sound _
  ranges_done None (Some count) ns = unchanged hellotype refl allowed seen sound _
  ranges_done (Some first) None ns = unchanged hellotype refl allowed seen sound _
  ranges_done (Some first) (Some count) None = unchanged hellotype refl allowed seen sound _
  ranges_done (Some first) (Some count) (Some ns) = unchanged hellotype refl allowed seen sound _

  lengths_done : (ns : Option (List ℤ)) → IsDone (hellotype ∷ []) allowed seen (lengths seen ns)
  lengths_done None = unchanged hellotype refl allowed seen sound _
  lengths_done (Some ns) = unchanged hellotype refl allowed seen sound _

  inserts_done : (key text : Bytes) → IsWithinLimits (insert_name ∷ key ∷ text ∷ [])
      → (n : Option ℤ) → i64_of text ≡ n → (old : Option (Option Saved))
      → own_value hello_name (value_at seen.keys key) ≡ old
      → IsDone (hellotype ∷ []) allowed seen
      (inserts seen (insert_name ∷ key ∷ text ∷ []) n (option_map numbers_or_none old))
  inserts_done key text limits None read old was = unchanged hellotype refl allowed seen sound _
  inserts_done key text limits (Some n) read None was =
      unchanged hellotype refl allowed seen sound _
  inserts_done key text limits (Some n) read (Some old) was =
      change_done hellotype refl allowed seen sound insert_name key (text ∷ []) old
      (Some (saved_numbers (inserted n (numbers_or_none old)))) _ _ limits refl was
      (ap (option_map (λ k. Some (saved_numbers (inserted k (numbers_or_none old))))) read)
      (inserted_full n (numbers_or_none old))

  insert_case : (name key text : Bytes) → IsWithinLimits (name ∷ key ∷ text ∷ [])
      → bytes_eq name insert_name ≡ true
      → IsDone (hellotype ∷ []) allowed seen (inserts seen (name ∷ key ∷ text ∷ []) (i64_of text)
      (numbers_at seen.keys key))
  insert_case name key text limits is =
      let same : name ≡ insert_name = (bytes_decides name insert_name).0 is in
      subst (λ nm. IsDone (hellotype ∷ []) allowed seen
      (inserts seen (nm ∷ key ∷ text ∷ []) (i64_of text) (numbers_at seen.keys key))) (sym same)
      (inserts_done key text (subst (λ nm. IsWithinLimits (nm ∷ key ∷ text ∷ [])) same limits)
      (i64_of text) refl (own_value hello_name (value_at seen.keys key)) refl)

  shown_case : (words : Words) (b : Bool) → IsDone (hellotype ∷ []) allowed seen
      (if b then ranges seen (natural (i64_of (word 2 words))) (natural (i64_of (word 3 words)))
      (numbers_at seen.keys (word 1 words))
      else lengths seen (numbers_at seen.keys (word 1 words)))
  shown_case words true = ranges_done _ _ _
  shown_case words false = lengths_done _

  name_case : (words : Words) → IsWithinLimits words → length words ≡ 3
      → bytes_eq (word 0 words) insert_name ≡ true → IsDone (hellotype ∷ []) allowed seen
      (inserts seen words (i64_of (word 2 words)) (numbers_at seen.keys (word 1 words)))
  unfolding word
  name_case [] limits three is = absurd (omega arith)
  name_case (name ∷ []) limits three is = absurd (omega arith)
  name_case (name ∷ key ∷ []) limits three is = absurd (omega arith)
  name_case (name ∷ key ∷ text ∷ []) limits three is = insert_case name key text limits is
  name_case (name ∷ key ∷ text ∷ other ∷ more) limits three is = absurd (omega arith)

  says_case : (words : Words) → IsWithinLimits words → (b : Bool)
      → bytes_eq (word 0 words) insert_name ≡ b → (b ≡ true → length words ≡ 3)
      → IsDone (hellotype ∷ []) allowed seen (hello_says seen words)
  says_case words limits true is three = rw is (name_case words limits (three refl) is)
  says_case words limits false is three =
      rw is (shown_case words (bytes_eq (word 0 words) range_name))

  says_done : (words : Words) → IsCall hello_rows words
      → IsDone (hellotype ∷ []) allowed seen (hello_says seen (own words))
  unfolding word
  says_done [] call = absurd (omega (arith, call.limits.some))
  says_done (name ∷ words) call =
      let upper = map to_ascii_uppercase name in
      says_case (upper ∷ words) (record {
        some = omega arith;
        few = call.limits.few;
        each = (omega (arith, length-map name to_ascii_uppercase, call.limits.each.0), call.limits.each.1);
      }) (bytes_eq upper insert_name) refl (λ is. insert_words (name ∷ words) call is)

after_full : (n : Option ℤ) (ns : List ℤ) (items : Saved)
    → option_map (λ k. Some (saved_numbers (inserted k ns))) n ≡ Some (Some items)
    → is_full (type_of hellotype) items ≡ true
after_full None ns items is = absurd (none-some (Some items) is)
after_full (Some n) ns items is =
    let same : saved_numbers (inserted n ns) ≡ items = same_Some _ _ (same_Some _ _ is) in
    subst (λ v. is_full (type_of hellotype) v ≡ true) same (inserted_full n ns)

again_case : (r : Result (List ℤ) LoadFault) (value : Saved) → saved_again r ≡ Ok value
    → list_all is_short value ≡ true
again_case (Err why) value is = absurd (err-ok is)
again_case (Ok ns) value is =
    subst (λ v. list_all is_short v ≡ true) (same_Ok (saved_numbers ns) value is) (saved_short ns)

loads_case : (b : Bool) (parts : Saved) (version : ℕ) (value : Saved)
    → (if b then Err (load_fault.Version version) else saved_again (numbers_in version parts)) ≡ Ok value
    → list_all is_short value ≡ true
loads_case true parts version value is = absurd (err-ok is)
loads_case false parts version value is = again_case (numbers_in version parts) value is

-- what each command answers is a reply
inserts_reply : (seen : Seen) (words : Words) (n : Option ℤ) (ns : Option (List ℤ))
    → IsReply (inserts seen words n ns).answer
inserts_reply seen words None ns = tt
inserts_reply seen words (Some n) None = tt
inserts_reply seen words (Some n) (Some ns) = tt

ranges_reply : (seen : Seen) (first count : Option ℕ) (ns : Option (List ℤ))
    → IsReply (ranges seen first count ns).answer
ranges_reply seen None None ns = tt
ranges_reply seen None (Some count) ns = tt
ranges_reply seen (Some first) None ns = tt
ranges_reply seen (Some first) (Some count) None = tt
ranges_reply seen (Some first) (Some count) (Some ns) = tt

lengths_reply : (seen : Seen) (ns : Option (List ℤ)) → IsReply (lengths seen ns).answer
lengths_reply seen None = tt
lengths_reply seen (Some ns) = tt

says_reply : (seen : Seen) (words : Words) → IsReply (hello_says seen words).answer
says_reply seen words =
    let ns = numbers_at seen.keys (word 1 words) in
    reply_either (bytes_eq (word 0 words) insert_name) _ _
    (inserts_reply seen words (i64_of (word 2 words)) ns)
    (reply_either (bytes_eq (word 0 words) range_name) _ _
    (ranges_reply seen (natural (i64_of (word 2 words))) (natural (i64_of (word 3 words))) ns)
    (lengths_reply seen ns))

-- what an effect makes of a value or none, by the number that its words insert
abbrev makes_of : Option Saved → Option ℤ → Option (Option Saved)
makes_of old n = option_map (λ k. Some (saved_numbers (inserted k (numbers_or_none old)))) n

-- `after` makes something of an INSERT alone
insert_else : (b : Bool) (name key text : Bytes) (old left : Option Saved)
    → bytes_eq (map to_ascii_uppercase name) insert_name ≡ b
    → makes_of old (if b then i64_of text else None) ≡ Some left
    → IsWriting hello_rows (name ∷ key ∷ text ∷ [])
insert_else true name key text old left is makes =
    let same : map to_ascii_uppercase name ≡ insert_name = (bytes_decides _ insert_name).0 is in
    record {
      row = writing insert_name (pos 3);
      named = ap (λ upper. row_named upper hello_rows) same;
      writes = refl;
    }
insert_else false name key text old left is makes = absurd (none-some left makes)

none_else : (old : Option Saved) (words : Words) (left : Option Saved)
    → makes_of old (to_insert words) ≡ Some left → IsWriting hello_rows words
none_else old [] left makes = absurd (none-some left makes)
none_else old (name ∷ []) left makes = absurd (none-some left makes)
none_else old (name ∷ key ∷ []) left makes = absurd (none-some left makes)
none_else old (name ∷ key ∷ text ∷ []) left makes =
    insert_else (bytes_eq (map to_ascii_uppercase name) insert_name) name key text old left refl makes
none_else old (name ∷ key ∷ text ∷ other ∷ more) left makes = absurd (none-some left makes)

zero_fits : FitsSigned w64 (pos 0)
zero_fits = omega (arith, ints)

-- an INSERT of 0 makes a list of it
zero_written : IsWritten hellotype (writing insert_name (pos 3))
zero_written = record {
  words = insert_name ∷ [] ∷ signed_decimal (pos 0) ∷ [];
  old = None;
  left = Some (saved_numbers (pos 0 ∷ []));
  named = refl;
  arity = refl;
  limits = record {
    some = omega arith;
    few = omega arith;
    each = (omega arith, (omega arith, (omega (arith, (signed_decimal-short (pos 0) zero_fits).few), tt)));
  };
  full = tt;
  made = ap (makes_of None) (i64_of-decimal (pos 0) zero_fits);
}

pub hello_lawful : IsLawful hellotype
hello_lawful = record {
  named = named-found hello_name refl refl
      (λ same. true≢false (sym ((bytes_decides hello_name _).1 same)));
  versioned = omega arith;
  commands = hello_commands;
  effects = record {
    says = λ allowed private seen words sound call. says_done allowed seen sound words call;
    replies = λ allowed private seen payload sound. unchanged hellotype refl allowed seen sound _;
    times_out = λ allowed private seen job sound. unchanged hellotype refl allowed seen sound _;
    goes = λ allowed private seen job sound. unchanged hellotype refl allowed seen sound _;
    tells = λ allowed private seen op sound short. unchanged hellotype refl allowed seen sound _;
  };
  writes = record { none_else = none_else; each = (zero_written, (tt, (tt, tt))) };
  at_once = λ private seen words call writes. says_reply seen (own words);
  limits = record {
    after = λ old words items full limits makes. after_full (to_insert words) (numbers_or_none old) items makes;
    loads = λ items version value short loads. loads_case (nat_lt 1 version) items version value loads;
    chores = λ private note. tt;
  };
}
