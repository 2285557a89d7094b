-- That a lawful type makes a lawful module.
use Rattle.std.proofs.Common.{◌≡◌, ℕ, ℤ, ◌<◌, ◌≤◌, pos, negsuc, Bool, true, false, List, [], ◌∷◌, length, map, Option, Some, None, Result, Ok, Err, IfOk, refl, sym, ap, subst, ◌∙◌, true≢false, arith, if◌then◌else◌}
use Rattle.std.specs.Prelude.{◌&&◌, ◌||◌, ◌==◌, nat_le, IsTrue, slice_get}
use Rattle.std.specs.Char.{to_ascii_uppercase}
use Rattle.std.specs.Cmp.Lexicographic.{bytes_decides}
use Rattle.std.specs.List.{AllByRecursion, list_all}
use Rattle.std.specs.Option.{option_and_then, option_map}
use Rattle.std.specs.Result.{is_err, result_unwrap_or}
use Rattle.std.specs.Str.{bytes_eq}
use Rattle.std.proofs.lemmas.Bool.Decides.{nat_tests}
use Rattle.std.proofs.lemmas.List.{length-map}
use Rattle.std.proofs.lemmas.Option.{none-some, same_Some}
use Rattle.core_types.proofs.KeyLemmas.{changed_kept, removed_kept}
use Rattle.core_types.specs.CommandRow.{CommandRow, MeetArity, takes}
use Rattle.core_types.specs.Keys.{Entry, Keys, Native, entry_at, value_at}
use Rattle.core_types.specs.Keyspace.{IsString, IsKeyspace, IsValue}
use Rattle.core_types.specs.Limits.{IsWithinLimits}
use Rattle.core_types.specs.declared.load_fault.LoadFault.{LoadFault}
use Rattle.core_types.specs.declared.reply.Reply.{Reply}
use Rattle.core_types.specs.declared.value.Value.{Value}
use Rattle.core_types.specs.declared.value.Value.TheVariants as value
use Rattle.sequences.specs.Words.{word}
use Rattle.module_laws.specs.Laws.{AreCommands, IsCall, IsCommand, IsDone, IsFullOrNone, IsLawful, IsReply, IsSound, IsWriting, IsWrittenWhere}
use Rattle.module_laws.specs.Meaning.{Meaning, type_of}
use Rattle.module_laws.specs.Named.{are_distinct, command_name, has_dot, row_named}
use Rattle.module_laws.specs.Plain.{answers_with}
use Rattle.module_laws.specs.Replay.{own_value, owned_by, replayed, replayed_by, with_after}
use Rattle.module_laws.specs.Told.{Builtins, Seen}
use Rattle.module_laws.specs.Types.{is_full, is_kept, is_short}
use Rattle.module_laws.specs.Words.{Bytes, Words, Saved}
use Rattle.module_laws.specs.Rows.{found_named, found_row}
use Rattle.module_laws.specs.declared.verdict.Verdict.TheVariants as verdict
use Rattle.one_key.specs.KeyMeaning.{KeyChange, KeyMeaning}
use Rattle.one_key.specs.Lawful.{IsKeyLawful, IsLawfulChange, IsLawfulWhere, IsRemade, IsWriter, IsWriterWhere, is_key_row, is_long}
use Rattle.one_key.specs.MeaningOf.{makes, meaning_of, replies_and, serves, serves_on}
use Rattle.one_key.specs.OwnWords.{is_write, own, writes_by}

-- both of two tests hold
left_of : (a b : Bool) → a && b ≡ true → a ≡ true
left_of true b is = refl
left_of false b is = absurd (true≢false (sym is))

right_of : (a b : Bool) → a && b ≡ true → b ≡ true
right_of true b is = is
right_of false b is = absurd (true≢false (sym is))

each_of : (rows : List CommandRow) → list_all is_key_row rows ≡ true
    → AllByRecursion (λ row. is_key_row row ≡ true) rows
each_of [] is = tt
each_of (row ∷ rows) is =
    (left_of (is_key_row row) _ is, each_of rows (right_of (is_key_row row) _ is))

-- what the test of a row says
pub record IsKeyRow (row : CommandRow) : Type 0 where
  pub upper : map to_ascii_uppercase row.name ≡ row.name
  pub dotted : has_dot row.name ≡ true
  pub key : row.key ≡ 1
  pub long : is_long row.arity ≡ true

one_is : (n : ℕ) → n == 1 ≡ true → n ≡ 1
one_is n is = grind (arith, nat_tests)

key_row : (row : CommandRow) → is_key_row row ≡ true → IsKeyRow row
key_row row is =
    let upper = bytes_eq (map to_ascii_uppercase row.name) row.name in
    let named = upper && has_dot row.name in
    let placed = named && row.key == 1 in
    let before = left_of placed (is_long row.arity) is in
    let name = left_of named (row.key == 1) before in
    record {
      upper = (bytes_decides _ row.name).0 (left_of upper (has_dot row.name) name);
      dotted = right_of upper (has_dot row.name) name;
      key = one_is row.key (right_of named (row.key == 1) before);
      long = right_of placed (is_long row.arity) is;
    }

command_each : (rows : List CommandRow) → list_all is_key_row rows ≡ true
    → AllByRecursion IsCommand rows
command_each [] is = tt
command_each (row ∷ rows) is =
    let r = key_row row (left_of (is_key_row row) _ is) in (
      record { upper = r.upper; dotted = r.dotted; keyed = λ writes. omega (arith, r.key) },
      command_each rows (right_of (is_key_row row) _ is),
    )

two_words : (count : ℕ) (arity : ℤ) → is_long arity ≡ true → IsTrue (takes arity count) → 2 ≤ count
two_words count (pos n) long takes = grind (arith, nat_tests)
two_words count (negsuc n) long takes = grind (arith, nat_tests)

few_rows : (count : ℕ) → nat_le count 200 ≡ true → count ≤ 200
few_rows count is = grind (arith, nat_tests)

is_true : (b : Bool) → IsTrue b → b ≡ true
is_true b is = is

-- what holds of the words of a command that is called, and of its row
module _ (m : KeyMeaning) (laws : IsKeyLawful m) where
  rows_named : list_all is_key_row m.rows && are_distinct (map (λ row. row.name) m.rows) ≡ true
  rows_named = left_of _ (nat_le (length m.rows) 200) laws.rows

  rows_are : list_all is_key_row m.rows ≡ true
  rows_are = left_of (list_all is_key_row m.rows) _ rows_named

  pub commands_are : AreCommands m.rows
  commands_are = record {
    each = command_each m.rows rows_are;
    distinct = right_of (list_all is_key_row m.rows) _ rows_named;
    few = few_rows (length m.rows)
        (right_of (list_all is_key_row m.rows && are_distinct (map (λ row. row.name) m.rows)) _ laws.rows);
  }

  pub found_key_row : (name : Bytes) (row : CommandRow) → row_named name m.rows ≡ Some row
      → IsKeyRow row
  found_key_row name row found =
      key_row row (found_row (λ r. is_key_row r ≡ true) m.rows name row (each_of m.rows rows_are) found)

  writer_of : (b : Bool) (row : CommandRow) → b ≡ true → IsWriterWhere b m row → IsWriter m row
  writer_of true row is writer = writer
  writer_of false row is writer = absurd (true≢false (sym is))

  pub found_writer : (name : Bytes) (row : CommandRow) → row_named name m.rows ≡ Some row
      → row.writes ≡ true → IsWriter m row
  found_writer name row found writes =
      writer_of row.writes row writes
      (found_row (λ r. IsWriterWhere r.writes m r) m.rows name row laws.writers found)

  -- words of a listed command are its own words
  own_same : (row : CommandRow) (key : Bytes) (more : Words)
      → map to_ascii_uppercase row.name ≡ row.name
      → own (row.name ∷ key ∷ more) ≡ row.name ∷ key ∷ more
  own_same row key more upper = ap (λ name. name ∷ key ∷ more) upper

  write_is : (row : CommandRow) (words : Words) (found : Option CommandRow) → found ≡ Some row
      → row.writes ≡ true → MeetArity row words → writes_by found words ≡ true
  write_is row words found is writes arity =
      ap (λ f. writes_by f words) is
      ∙ ap (λ b. b && takes row.arity (length words)) writes ∙ is_true (takes row.arity (length words)) arity

  -- what words of a listed command that writes make
  made_by : (row : CommandRow) (key : Bytes) (more : Words) (old left : Option Saved)
      → row_named row.name m.rows ≡ Some row → row.writes ≡ true
      → MeetArity row (row.name ∷ key ∷ more)
      → option_map (λ c. c.left) (m.writes old (row.name ∷ key ∷ more)).change ≡ Some left
      → makes m old (own (row.name ∷ key ∷ more)) ≡ Some left
  unfolding word
  made_by row key more old left listed writes arity again =
      let words : Words = row.name ∷ key ∷ more in
      ap (makes m old) (own_same row key more (found_key_row row.name row listed).upper)
      ∙ ap (λ b. if b then option_map (λ c. c.left) (m.writes old words).change else None)
      (write_is row words (row_named row.name m.rows) listed writes arity)
      ∙ again

  -- and replaying them makes it of the key
  replays : (builtins : Builtins) (keys : Keys) (row : CommandRow) (key : Bytes) (more : Words)
      → (old left : Option Saved) → row_named row.name m.rows ≡ Some row → row.writes ≡ true
      → MeetArity row (row.name ∷ key ∷ more)
      → own_value m.name (value_at keys key) ≡ Some old
      → option_map (λ c. c.left) (m.writes old (row.name ∷ key ∷ more)).change ≡ Some left
      → replayed builtins (meaning_of m ∷ []) keys (record { words = row.name ∷ key ∷ more })
      ≡ Some (with_after m.name key keys left)
  replays builtins keys row key more old left listed writes arity found again =
      let words : Words = row.name ∷ key ∷ more in
      let r = found_key_row row.name row listed in
      let after = λ (o : Option Saved). makes m o (own words) in
      let named : row_named (command_name words) m.rows ≡ Some row =
      ap (λ name. row_named name m.rows) r.upper ∙ listed in
      ap (λ o. replayed_by builtins keys (record { words = words }) (owned_by (meaning_of m) o None)) named
      ∙ ap (λ b. if b then option_and_then (λ k. option_and_then (λ o. option_and_then
      (λ items. Some (with_after m.name k keys items)) (after o)) (own_value m.name (value_at keys k)))
      (slice_get words row.key) else None) writes
      ∙ ap (λ place. option_and_then (λ k. option_and_then (λ o. option_and_then
      (λ items. Some (with_after m.name k keys items)) (after o)) (own_value m.name (value_at keys k)))
      (slice_get words place)) r.key
      ∙ ap (option_and_then (λ o. option_and_then
      (λ items. Some (with_after m.name key keys items)) (after o))) found
      ∙ ap (option_and_then (λ items. Some (with_after m.name key keys items)))
      (made_by row key more old left listed writes arity again)

-- a full value of a module is one that a key may have
kept_full : (meaning : Meaning) (items : Saved) → bytes_eq meaning.name meaning.name ≡ true
    → is_full (type_of meaning) items ≡ true
    → is_kept (type_of meaning ∷ []) (record { name = meaning.name; items = items }) ≡ true
kept_full meaning items itself full =
    ap (λ b. if b then is_full (type_of meaning) items else false) itself ∙ full

-- a name is itself
pub itself : (name : Bytes) → bytes_eq name name ≡ true
itself name = (bytes_decides name name).1 refl

module _ (meaning : Meaning) (allowed : Native → Bool) (seen : Seen)
    (sound : IsSound (type_of meaning ∷ []) allowed seen) where
  pub unchanged : {A : Type 0} {private : Saved} (answer : A)
      → IsDone (meaning ∷ []) allowed seen (answers_with private answer seen)
  unchanged answer = record { replayed = refl; small = tt; kept = sound.keys }

  -- a key that is left with a full value or none leaves a keyspace
  pub left_kept : (key : Bytes) (made : Option Saved) → IsString key → IsFullOrNone meaning made
      → IsKeyspace allowed (with_after meaning.name key seen.keys made)
  left_kept key None short full = removed_kept allowed seen.keys sound.keys key
  left_kept key (Some items) short full =
      changed_kept allowed seen.keys sound.keys key _ short
      (sound.allows (record { name = meaning.name; items = items })
      (ap (λ b. b || false) (itself meaning.name))
      ∙ kept_full meaning items (itself meaning.name) full)

  allowed_full : (b : Bool) (native : Native) → bytes_eq native.name meaning.name ≡ b
      → allowed native ≡ true → (old : Option Saved)
      → (if b then Some (Some native.items) else None) ≡ Some old → IsFullOrNone meaning old
  allowed_full true native same may old is =
      subst (IsFullOrNone meaning) (same_Some (Some native.items) old is)
      (sym (ap (λ b. if b then is_full (type_of meaning) native.items else false) same)
      ∙ sym (sound.allows native (ap (λ b. b || false) same)) ∙ may)
  allowed_full false native same may old is = absurd (none-some old is)

  kind_case : (old : Option Saved) (there : Value Native) → IsValue allowed there
      → own_value meaning.name (Some there) ≡ Some old → IsFullOrNone meaning old
  kind_case old (value.Native native) may is =
      allowed_full (bytes_eq native.name meaning.name) native refl may old is
  kind_case old (value.Str text) may is = absurd (none-some old is)
  kind_case old (value.List items) may is = absurd (none-some old is)
  kind_case old (value.Hash fields) may is = absurd (none-some old is)

  own_case : (key : Bytes) (old : Option Saved) (there : Option (Entry Native))
      → entry_at seen.keys key ≡ there
      → own_value meaning.name (option_map (λ entry. entry.value) there) ≡ Some old
      → IsFullOrNone meaning old
  own_case key old None at is = subst (IsFullOrNone meaning) (same_Some None old is) tt
  own_case key old (Some entry) at is =
      kind_case old entry.value (sound.keys key entry at).1.0 is

  -- a value of the module that a key has is full
  pub own_full : (key : Bytes) (old : Option Saved)
      → own_value meaning.name (value_at seen.keys key) ≡ Some old → IsFullOrNone meaning old
  own_full key old is = own_case key old (entry_at seen.keys key) refl is

-- words of a command, as it is listed
pub record IsListed (m : KeyMeaning) (row : CommandRow) (key : Bytes) (more : Words) : Type 0 where
  pub listed : row_named row.name m.rows ≡ Some row
  pub arity : MeetArity row (row.name ∷ key ∷ more)
  pub limits : IsWithinLimits (row.name ∷ key ∷ more)

module _ (m : KeyMeaning) (laws : IsKeyLawful m) (private : Saved) (allowed : Native → Bool)
    (seen : Seen) (sound : IsSound (type_of (meaning_of m) ∷ []) allowed seen)
    (row : CommandRow) (key : Bytes) (more : Words) (is : IsListed m row key more) where
  abbrev IsDoneSo : Reply → Option KeyChange → Type 0
  IsDoneSo reply change = IsDone (meaning_of m ∷ []) allowed seen
      (replies_and m private seen (row.name ∷ key ∷ more) reply change)

  effect_case : (old : Option Saved) (reply : Reply) (left : Option Saved) (event : Bytes)
      → (effect : Option Words) → row.writes ≡ true
      → own_value m.name (value_at seen.keys key) ≡ Some old
      → (m.writes old (row.name ∷ key ∷ more)).change
      ≡ Some (record { left = left; effect = effect; event = event })
      → IsLawfulChange m old key (record { left = left; effect = effect; event = event })
      → IsDoneSo reply (Some (record { left = left; effect = effect; event = event }))
  unfolding word
  effect_case old reply left event None writes found made lawful = record {
    replayed = ap (option_and_then (λ k. Some k))
        (replays m laws seen.builtins seen.keys row key more old left is.listed writes is.arity found
        (ap (option_map (λ c. c.left)) made));
    small = (is.limits, tt);
    kept = left_kept (meaning_of m) allowed seen sound key left is.limits.each.1.0
        (lawful.full (own_full (meaning_of m) allowed seen sound key old found));
  }
  effect_case old reply left event (Some effect) writes found made lawful =
      let again : IsRemade m old key left effect = lawful.remade in
      record {
        replayed = ap (option_and_then (λ k. Some k))
            (ap (λ ws. replayed seen.builtins (meaning_of m ∷ []) seen.keys (record { words = ws })) again.is
            ∙ replays m laws seen.builtins seen.keys again.row key again.more old left again.listed again.writes
            (subst (MeetArity again.row) again.is again.arity) found
            (ap (λ ws. option_map (λ c. c.left) (m.writes old ws).change) (sym again.is) ∙ again.again));
        small = (again.limits, tt);
        kept = left_kept (meaning_of m) allowed seen sound key left is.limits.each.1.0
            (lawful.full (own_full (meaning_of m) allowed seen sound key old found));
      }

  change_case : (old : Option Saved) (reply : Reply) (change : Option KeyChange) → row.writes ≡ true
      → own_value m.name (value_at seen.keys key) ≡ Some old
      → (m.writes old (row.name ∷ key ∷ more)).change ≡ change → IsLawfulWhere m old key change
      → IsDoneSo reply change
  change_case old reply None writes found made lawful =
      unchanged (meaning_of m) allowed seen sound _
  change_case old reply (Some change) writes found made lawful =
      effect_case old reply change.left change.event change.effect writes found made lawful

  writes_case : (b : Bool) (old : Option Saved) → row.writes ≡ b
      → own_value m.name (value_at seen.keys key) ≡ Some old
      → IsDone (meaning_of m ∷ []) allowed seen
      (serves_on m private seen (row.name ∷ key ∷ more) (Some old))
  unfolding word
  writes_case true old writes found =
      let words : Words = row.name ∷ key ∷ more in
      rw (write_is m laws row words (row_named row.name m.rows) is.listed writes is.arity)
      (change_case old (m.writes old words).reply (m.writes old words).change writes found refl
      ((found_writer m laws row.name row is.listed writes).changes old key more is.arity is.limits))
  writes_case false old writes found =
      rw (ap (λ f. writes_by f (row.name ∷ key ∷ more)) is.listed
      ∙ ap (λ b. b && takes row.arity (length (row.name ∷ key ∷ more))) writes)
      (unchanged (meaning_of m) allowed seen sound _)

  found_case : (old : Option (Option Saved)) → own_value m.name (value_at seen.keys key) ≡ old
      → IsDone (meaning_of m ∷ []) allowed seen (serves_on m private seen (row.name ∷ key ∷ more) old)
  found_case None found = unchanged (meaning_of m) allowed seen sound _
  found_case (Some old) found = writes_case row.writes old refl found

  pub row_done : IsDone (meaning_of m ∷ []) allowed seen
      (serves m private seen (row.name ∷ key ∷ more))
  unfolding word
  row_done = found_case (own_value m.name (value_at seen.keys key)) refl

-- what a command answers is a reply
replies_case : (m : KeyMeaning) (private : Saved) (seen : Seen) (words : Words) (reply : Reply)
    → (change : Option KeyChange) → IsReply (replies_and m private seen words reply change).answer
replies_case m private seen words reply None = tt
replies_case m private seen words reply (Some change) = tt

abbrev loaded_as : Saved → Result Saved LoadFault
loaded_as items = Ok items

same_Ok : (items value : Saved) → loaded_as items ≡ Ok value → items ≡ value
same_Ok items value is = ap (λ r. result_unwrap_or r []) is

module _ (m : KeyMeaning) (laws : IsKeyLawful m) where
  -- the row of words that name a command, and are as many as it takes, is long
  long_words : (row : CommandRow) (words : Words) → row_named (command_name words) m.rows ≡ Some row
      → MeetArity row words → 2 ≤ length words
  long_words row words found arity =
      two_words (length words) row.arity (found_key_row m laws (command_name words) row found).long arity

  listed_words : (row : CommandRow) (name key : Bytes) (more : Words)
      → row_named (map to_ascii_uppercase name) m.rows ≡ Some row
      → MeetArity row (name ∷ key ∷ more) → IsWithinLimits (name ∷ key ∷ more)
      → IsListed m row key more
  listed_words row name key more found arity limits =
      let same : row.name ≡ map to_ascii_uppercase name = found_named m.rows _ row found in
      record {
        listed = ap (λ n. row_named n m.rows) same ∙ found;
        arity = arity;
        limits = record {
          some = omega arith;
          few = limits.few;
          each = (
            omega (arith, ap length same, length-map name to_ascii_uppercase, limits.each.0),
            limits.each.1,
          );
        };
      }

  pub says_done : (private : Saved) (allowed : Native → Bool) (seen : Seen)
      → IsSound (type_of (meaning_of m) ∷ []) allowed seen → (words : Words) → IsCall m.rows words
      → IsDone (meaning_of m ∷ []) allowed seen (serves m private seen (own words))
  says_done private allowed seen sound [] call = absurd (omega (arith, call.limits.some))
  says_done private allowed seen sound (name ∷ []) call =
      absurd (omega (arith, long_words call.row (name ∷ []) call.named call.arity))
  says_done private allowed seen sound (name ∷ key ∷ more) call =
      let same : call.row.name ≡ map to_ascii_uppercase name =
      found_named m.rows _ call.row call.named in
      subst (λ n. IsDone (meaning_of m ∷ []) allowed seen (serves m private seen (n ∷ key ∷ more))) same
      (row_done m laws private allowed seen sound call.row key more
      (listed_words call.row name key more call.named call.arity call.limits))

  -- what is made is made by words of a command that writes, as many as it takes
  pub record IsMaking (words : Words) : Type 0 where
    pub row : CommandRow
    pub named : row_named (command_name words) m.rows ≡ Some row
    pub writes : row.writes ≡ true
    pub arity : MeetArity row (own words)

  making_case : (words : Words) (b : Bool) (found : Option CommandRow) (old left : Option Saved)
      → row_named (command_name words) m.rows ≡ found
      → writes_by found (own words) ≡ b
      → (if b then option_map (λ c. c.left) (m.writes old (own words)).change else None) ≡ Some left
      → IsMaking words
  making_case words false found old left is by made = absurd (none-some left made)
  making_case words true None old left is by made = absurd (true≢false (sym by))
  making_case words true (Some row) old left is by made = record {
    row = row;
    named = is;
    writes = left_of row.writes _ by;
    arity = right_of row.writes (takes row.arity (length (own words))) by;
  }

  making : (words : Words) (old left : Option Saved) → makes m old (own words) ≡ Some left
      → IsMaking words
  unfolding word
  making words old left made =
      making_case words (is_write m.rows (own words)) (row_named (command_name words) m.rows) old left
      refl refl made

  none_else : (old : Option Saved) (words : Words) (left : Option Saved)
      → makes m old (own words) ≡ Some left → IsWriting m.rows words
  none_else old words left made =
      let by = making words old left made in
      record { row = by.row; named = by.named; writes = by.writes }

  used_where : (b : Bool) (row : CommandRow) → IsWriterWhere b m row
      → IsWrittenWhere b (meaning_of m) row
  used_where true row writer = writer.used
  used_where false row writer = tt

  used_each : (rows : List CommandRow) → AllByRecursion (λ row. IsWriterWhere row.writes m row) rows
      → AllByRecursion (λ row. IsWrittenWhere row.writes (meaning_of m) row) rows
  used_each [] writers = tt
  used_each (row ∷ rows) writers =
      (used_where row.writes row writers.0, used_each rows writers.1)

  serves_reply : (b : Bool) (private : Saved) (seen : Seen) (words : Words) (old : Option Saved)
      → IsReply (if b then replies_and m private seen words (m.writes old words).reply
      (m.writes old words).change
      else answers_with private (verdict.Say (m.reads old words)) seen).answer
  serves_reply true private seen words old =
      replies_case m private seen words (m.writes old words).reply (m.writes old words).change
  serves_reply false private seen words old = tt

  says_reply : (private : Saved) (seen : Seen) (words : Words) (old : Option (Option Saved))
      → IsReply (serves_on m private seen words old).answer
  says_reply private seen words None = tt
  says_reply private seen words (Some old) =
      serves_reply (is_write m.rows words) private seen words old

  -- what is left of a full value, or of none, is full
  full_case : (old : Option Saved) (key : Bytes) (change : Option KeyChange) (items : Saved)
      → IsFullOrNone (meaning_of m) old → IsLawfulWhere m old key change
      → option_map (λ c. c.left) change ≡ Some (Some items)
      → is_full (type_of (meaning_of m)) items ≡ true
  full_case old key None items full lawful made = absurd (none-some (Some items) made)
  full_case old key (Some change) items full lawful made =
      subst (IsFullOrNone (meaning_of m)) (same_Some change.left (Some items) made) (lawful.full full)

  made_case : (words : Words) (b : Bool) (old left : Option Saved)
      → writes_by (row_named (command_name words) m.rows) (own words) ≡ b
      → (if b then option_map (λ c. c.left) (m.writes old (own words)).change else None) ≡ Some left
      → option_map (λ c. c.left) (m.writes old (own words)).change ≡ Some left
  made_case words true old left by made = made
  made_case words false old left by made = absurd (none-some left made)

  after_full : (old : Option Saved) (words : Words) (items : Saved) → IsFullOrNone (meaning_of m) old
      → IsWithinLimits words → makes m old (own words) ≡ Some (Some items)
      → is_full (type_of (meaning_of m)) items ≡ true
  unfolding word
  after_full old [] items full limits made = absurd (omega (arith, limits.some))
  after_full old (name ∷ []) items full limits made =
      let by = making (name ∷ []) old (Some items) made in
      absurd (omega (arith, long_words by.row (name ∷ []) by.named by.arity))
  after_full old (name ∷ key ∷ more) items full limits made =
      let words : Words = name ∷ key ∷ more in
      let by = making words old (Some items) made in
      let is = listed_words by.row name key more by.named by.arity limits in
      let same : by.row.name ≡ map to_ascii_uppercase name = found_named m.rows _ by.row by.named in
      let left = made_case words (is_write m.rows (own words)) old (Some items) refl made in
      full_case old key (m.writes old (by.row.name ∷ key ∷ more)).change items full
      ((found_writer m laws by.row.name by.row is.listed by.writes).changes old key more is.arity is.limits)
      (ap (λ n. option_map (λ c. c.left) (m.writes old (n ∷ key ∷ more)).change) same ∙ left)

  loaded : (value : Saved) (found : Result Saved LoadFault)
      → IfOk found (λ v. list_all is_short v ≡ true) → found ≡ Ok value
      → list_all is_short value ≡ true
  loaded value (Ok items) short is = subst (λ v. list_all is_short v ≡ true) (same_Ok items value is) short
  loaded value (Err why) short is = absurd (true≢false (ap is_err is))

  pub key_lawful : IsLawful (meaning_of m)
  key_lawful = record {
    named = laws.named;
    versioned = laws.versioned;
    commands = commands_are m laws;
    effects = record {
      says = λ allowed private seen words sound call. says_done private allowed seen sound words call;
      replies = λ allowed private seen payload sound. unchanged (meaning_of m) allowed seen sound _;
      times_out = λ allowed private seen job sound. unchanged (meaning_of m) allowed seen sound _;
      goes = λ allowed private seen job sound. unchanged (meaning_of m) allowed seen sound _;
      tells = λ allowed private seen op sound short. unchanged (meaning_of m) allowed seen sound _;
    };
    writes = record { none_else = none_else; each = used_each m.rows laws.writers };
    at_once = λ private seen words call writes. says_reply private seen (own words)
        (own_value m.name (value_at seen.keys (word 1 (own words))));
    limits = record {
      after = after_full;
      loads = λ items version value short is. loaded value (m.loads items version) (laws.loads items version short) is;
      chores = λ private note. tt;
    };
  }

-- words of a command that writes, as the code has them: the row that they name
pub record IsOwnWrite (m : KeyMeaning) (words : Words) : Type 0 where
  pub row : CommandRow
  pub named : row_named (word 0 words) m.rows ≡ Some row
  pub writes : row.writes ≡ true
  pub arity : MeetArity row words

own_write_case : (m : KeyMeaning) (words : Words) (found : Option CommandRow)
    → row_named (word 0 words) m.rows ≡ found → writes_by found words ≡ true → IsOwnWrite m words
own_write_case m words None is by = absurd (true≢false (sym by))
own_write_case m words (Some row) is by = record {
  row = row;
  named = is;
  writes = left_of row.writes _ by;
  arity = right_of row.writes (takes row.arity (length words)) by;
}

pub own_write : (m : KeyMeaning) (words : Words) → is_write m.rows words ≡ true → IsOwnWrite m words
own_write m words by = own_write_case m words (row_named (word 0 words) m.rows) refl by

module _ (m : KeyMeaning) (laws : IsKeyLawful m) where
  -- they are at least two
  pub long_own : (words : Words) → is_write m.rows words ≡ true → 2 ≤ length words
  long_own words by =
      let own = own_write m words by in
      two_words (length words) own.row.arity (found_key_row m laws (word 0 words) own.row own.named).long own.arity

  -- and what they change is lawful
  pub change_lawful : (words : Words) → is_write m.rows words ≡ true → IsWithinLimits words
      → (was : Option Saved) → IsLawfulWhere m was (word 1 words) (m.writes was words).change
  unfolding word
  change_lawful [] by limits was = absurd (omega (arith, limits.some))
  change_lawful (name ∷ []) by limits was = absurd (omega (arith, long_own (name ∷ []) by))
  change_lawful (name ∷ key ∷ more) by limits was =
      let words : Words = name ∷ key ∷ more in
      let own = own_write m words by in
      let same : own.row.name ≡ name = found_named m.rows name own.row own.named in
      let listed : row_named own.row.name m.rows ≡ Some own.row = ap (λ n. row_named n m.rows) same ∙ own.named in
      subst (λ n. IsLawfulWhere m was key (m.writes was (n ∷ key ∷ more)).change) same
      ((found_writer m laws own.row.name own.row listed own.writes).changes was key more own.arity
      (subst (λ n. IsWithinLimits (n ∷ key ∷ more)) (sym same) limits))

  -- what fewer than two words make
  short_none : (words : Words) (b : Bool) (old : Option Saved) → length words < 2
      → is_write m.rows (own words) ≡ b
      → None ≡ (if b then option_map (λ c. c.left) (m.writes old (own words)).change else None)
  short_none words false old short by = refl
  short_none [] true old short by = absurd (omega (arith, long_own (own []) by))
  short_none (name ∷ []) true old short by = absurd (omega (arith, long_own (own (name ∷ [])) by))
  short_none (name ∷ key ∷ more) true old short by = absurd (omega (arith, short))

  pub makes_none : (words : Words) (old : Option Saved) → length words < 2
      → None ≡ makes m old (own words)
  makes_none words old short = short_none words (is_write m.rows (own words)) old short refl

  -- the words of a call are at least two
  pub call_long : (words : Words) → IsCall m.rows words → 2 ≤ length (own words)
  call_long [] call = absurd (omega (arith, call.limits.some))
  call_long (name ∷ more) call = long_words m laws call.row (name ∷ more) call.named call.arity
