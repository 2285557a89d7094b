-- Serves the clause of limits_are_kept.
use Rattle.std.proofs.Common.{◌≡◌, ◌≤◌, ◌<◌, ◌-◌, if◌then◌else◌, ℕ, zero, suc, ℤ, pos, Bool, true, false, List, [], ◌∷◌, ◌∙◌, length, map, drop, codes, Option, Some, None, is_some, refl, arith}
use Rattle.std.specs.Prelude.{◌+ℤ◌, ◌==◌, nat_le}
use Rattle.std.specs.Cmp.Lexicographic.{nat_list_eq_equiv}
use Rattle.std.specs.List.{AllByRecursion, IsDistinct}
use Rattle.std.specs.Fmt.{signed_decimal}
use Rattle.std.specs.Str.{bytes_eq}
use Rattle.std.proofs.lemmas.Bool.Decides.{nat_tests}
use Rattle.byte_text.specs.Number.{fits_i64, i64_of, number_in, number_held}
use Rattle.byte_text.proofs.Decimals.{is_fit, signed_decimal-short}
use Rattle.core_types.specs.CommandRow.{MeetArity}
use Rattle.core_types.specs.Done.{Done, answers}
use Rattle.sequences.specs.Words.{word}
use Rattle.core_types.specs.Fields.{AreDistinct, field_value, with_field, with_fields, without_field, without_fields}
use Rattle.core_types.specs.Keyspace.{IsFieldOfStrings, IsString}
use Rattle.core_types.specs.declared.field.Field.{Field}
use Rattle.core_types.specs.declared.reply.Reply.{Reply}
use Rattle.core_types.specs.declared.reply.Reply.TheVariants as reply
use Rattle.hash_cmds.specs.declared.command.HashCmd.{HashCmd}
use Rattle.hash_cmds.specs.declared.command.HashCmd.TheVariants as command
use Rattle.hash_cmds.specs.Commands.{command_row}
use Rattle.hash_cmds.specs.Words.{fields_held, no_number, no_pairs, pairs, unless_wrong}
use Rattle.hash_cmds.specs.Setting.{set_fields, sets, with_pairs}
use Rattle.hash_cmds.specs.Removing.{remove_fields, removes}
use Rattle.hash_cmds.specs.Counting.{add, adds}
use Rattle.hash_cmds.specs.Rows.{row}
use Rattle.core_types.specs.Limits.{IsWithinLimits}
use Rattle.hash_cmds.specs.Laws.{IsKept, KeepsLimits}
use Rattle.hash_cmds.proofs.Lengths.{length-with_fields}

abbrev pub AreShort : List Field → Type 0
AreShort fields = AllByRecursion IsFieldOfStrings fields

abbrev names : List Field → List (List ℕ)
names fields = map (λ field. field.name) fields

short_word : (place : ℕ) (words : List (List ℕ)) → AllByRecursion IsString words → IsString (word place words)
unfolding word
short_word place [] h = omega arith
short_word zero (first ∷ rest) h = h.0
short_word (suc place) (first ∷ rest) h = short_word place rest h.1

short_rest : (count : ℕ) (words : List (List ℕ)) → AllByRecursion IsString words → AllByRecursion IsString (drop count words)
short_rest zero words h = h
short_rest (suc count) [] h = h
short_rest (suc count) (first ∷ rest) h = short_rest count rest h.1

short_pairs : (words : List (List ℕ)) → AllByRecursion IsString words → AreShort (pairs words)
short_pairs [] h = tt
short_pairs (name ∷ []) h = tt
short_pairs (name ∷ value ∷ rest) (a, (b, h)) = ((a, b), short_pairs rest h)

short_with : (fields : List Field) (new : Field) → AreShort fields → IsFieldOfStrings new → AreShort (with_field fields new)
short_with [] new h k = (k, tt)
short_with (field ∷ fields) new h k = by (bytes_eq new.name field.name) (short_with fields new h.1 k)
  where
    by : (b : Bool) → AreShort (with_field fields new)
        → AreShort (if b then (record field { value = new.value }) ∷ fields else field ∷ with_field fields new)
    by true rest = ((h.0.0, k.1), h.1)
    by false rest = (h.0, rest)

short_with_all : (fields news : List Field) → AreShort fields → AreShort news → AreShort (with_fields fields news)
short_with_all fields [] h k = h
short_with_all fields (new ∷ news) h k = short_with_all (with_field fields new) news (short_with fields new h k.0) k.1

short_without : (fields : List Field) (name : List ℕ) → AreShort fields → AreShort (without_field fields name)
short_without [] name h = h
short_without (field ∷ fields) name h = by (bytes_eq name field.name) (short_without fields name h.1)
  where
    by : (b : Bool) → AreShort (without_field fields name)
        → AreShort (if b then fields else field ∷ without_field fields name)
    by true rest = h.1
    by false rest = (h.0, rest)

short_without_all : (fields : List Field) (names : List (List ℕ)) → AreShort fields → AreShort (without_fields fields names)
short_without_all fields [] h = h
short_without_all fields (name ∷ names) h = short_without_all (without_field fields name) names (short_without fields name h)

-- ---- no name stands twice

apart_with : (name : List ℕ) (fields : List Field) (new : Field) → AllByRecursion (λ other. bytes_eq name other ≡ false) (names fields) → bytes_eq name new.name ≡ false
    → AllByRecursion (λ other. bytes_eq name other ≡ false) (names (with_field fields new))
apart_with name [] new h k = (k, tt)
apart_with name (field ∷ fields) new h k = by (bytes_eq new.name field.name) (apart_with name fields new h.1 k)
  where
    by : (b : Bool) → AllByRecursion (λ other. bytes_eq name other ≡ false) (names (with_field fields new))
        → AllByRecursion (λ other. bytes_eq name other ≡ false) (names (if b then (record field { value = new.value }) ∷ fields else field ∷ with_field fields new))
    by true rest = h
    by false rest = (h.0, rest)

distinct_with : (fields : List Field) (new : Field) → AreDistinct fields → AreDistinct (with_field fields new)
unfolding IsDistinct
distinct_with [] new h = (tt, tt)
distinct_with (field ∷ fields) new h = by (bytes_eq new.name field.name) refl (distinct_with fields new h.1)
  where
    by : (b : Bool) → bytes_eq new.name field.name ≡ b → AreDistinct (with_field fields new)
        → AreDistinct (if b then (record field { value = new.value }) ∷ fields else field ∷ with_field fields new)
    by true same rest = h
    by false other rest = (apart_with field.name fields new h.0 (nat_list_eq_equiv.symm field.name new.name ∙ other), rest)

distinct_with_all : (fields news : List Field) → AreDistinct fields → AreDistinct (with_fields fields news)
distinct_with_all fields [] h = h
distinct_with_all fields (new ∷ news) h = distinct_with_all (with_field fields new) news (distinct_with fields new h)

apart_without : (name : List ℕ) (fields : List Field) (gone : List ℕ) → AllByRecursion (λ other. bytes_eq name other ≡ false) (names fields)
    → AllByRecursion (λ other. bytes_eq name other ≡ false) (names (without_field fields gone))
apart_without name [] gone h = tt
apart_without name (field ∷ fields) gone h = by (bytes_eq gone field.name) (apart_without name fields gone h.1)
  where
    by : (b : Bool) → AllByRecursion (λ other. bytes_eq name other ≡ false) (names (without_field fields gone))
        → AllByRecursion (λ other. bytes_eq name other ≡ false) (names (if b then fields else field ∷ without_field fields gone))
    by true rest = h.1
    by false rest = (h.0, rest)

distinct_without : (fields : List Field) (gone : List ℕ) → AreDistinct fields → AreDistinct (without_field fields gone)
unfolding IsDistinct
distinct_without [] gone h = h
distinct_without (field ∷ fields) gone h = by (bytes_eq gone field.name) (distinct_without fields gone h.1)
  where
    by : (b : Bool) → AreDistinct (without_field fields gone) → AreDistinct (if b then fields else field ∷ without_field fields gone)
    by true rest = h.1
    by false rest = (apart_without field.name fields gone h.0, rest)

distinct_without_all : (fields : List Field) (names : List (List ℕ)) → AreDistinct fields → AreDistinct (without_fields fields names)
distinct_without_all fields [] h = h
distinct_without_all fields (name ∷ names) h = distinct_without_all (without_field fields name) names (distinct_without fields name h)

some_with : (fields : List Field) (new : Field) → 0 < length (with_field fields new)
some_with [] new = omega arith
some_with (field ∷ fields) new = by (bytes_eq new.name field.name)
  where
    by : (b : Bool) → 0 < length (if b then (record field { value = new.value }) ∷ fields else field ∷ with_field fields new)
    by true = omega arith
    by false = omega arith

some_pairs : (held : List Field) (words : List (List ℕ)) → 4 ≤ length words → 0 < length (with_pairs held words)
some_pairs held [] h = absurd (omega (arith, h))
some_pairs held (a ∷ []) h = absurd (omega (arith, h))
some_pairs held (a ∷ b ∷ []) h = absurd (omega (arith, h))
some_pairs held (a ∷ b ∷ c ∷ []) h = absurd (omega (arith, h))
some_pairs held (a ∷ b ∷ name ∷ value ∷ rest) h =
    let first = some_with held (record { name = name; value = value }) in
    let more = length-with_fields (with_field held (record { name = name; value = value })) (pairs rest) in
    omega (arith, first, more.at_least)

own_small : (name : List ℕ) (words : List (List ℕ)) → IsString name → IsWithinLimits words → IsWithinLimits (name ∷ drop 1 words)
own_small name [] short h = absurd (omega (arith, h.some))
own_small name (first ∷ rest) short h = record { some = omega arith; few = h.few; each = (short, h.each.1) }

held_short : (old : Option (List Field)) → IsKept old → AreShort (fields_held old)
held_short None h = tt
held_short (Some fields) h = h.1

held_distinct : (old : Option (List Field)) → IsKept old → AreDistinct (fields_held old)
unfolding IsDistinct
held_distinct None h = tt
held_distinct (Some fields) h = h.2

stays : (old : Option (List Field)) (said : Reply) → IsKept old → KeepsLimits old (answers said)
stays old said h = record { value = h; effects = tt }

unless_keeps : (old : Option (List Field)) (error : Option Reply) (done : Done (List Field)) → IsKept old → KeepsLimits old done → KeepsLimits old (unless_wrong error done)
unless_keeps old None done h k = k
unless_keeps old (Some said) done h k = record { value = h; effects = tt }

if_keeps : (old : Option (List Field)) (b : Bool) (d e : Done (List Field)) → KeepsLimits old d → KeepsLimits old e → KeepsLimits old (if b then d else e)
if_keeps old true d e h k = h
if_keeps old false d e h k = k

sets_keep : (old : Option (List Field)) (said : Reply) (words : List (List ℕ)) → 4 ≤ length words → IsKept old → IsWithinLimits words → KeepsLimits old (sets (fields_held old) said words)
sets_keep old said words size h k =
    record {
      value = (
        some_pairs (fields_held old) words size,
        short_with_all (fields_held old) (pairs (drop 2 words)) (held_short old h) (short_pairs (drop 2 words) (short_rest 2 words k.each)),
        distinct_with_all (fields_held old) (pairs (drop 2 words)) (held_distinct old h),
      );
      effects = (own_small (codes "HSET") words (omega arith) k, tt);
    }

removes_keep : (old : Option (List Field)) (left : List Field) (count : ℕ) (words : List (List ℕ)) → AreShort left × AreDistinct left → IsWithinLimits words → KeepsLimits old (removes count left words)
removes_keep old [] count words h k = record { value = tt; effects = (own_small (codes "HDEL") words (omega arith) k, tt) }
removes_keep old (field ∷ left) count words h k = record { value = (omega arith, h.0, h.1); effects = (own_small (codes "HDEL") words (omega arith) k, tt) }

remove_keeps : (old : Option (List Field)) (words : List (List ℕ)) → IsKept old → IsWithinLimits words → KeepsLimits old (remove_fields (fields_held old) words)
remove_keeps old words h k =
    let left = without_fields (fields_held old) (drop 2 words) in
    if_keeps old (length (fields_held old) - length left == 0) (answers (reply.Int (pos 0))) (removes (length (fields_held old) - length left) left words)
    (stays old _ h) (removes_keep old left _ words (short_without_all (fields_held old) (drop 2 words) (held_short old h), distinct_without_all (fields_held old) (drop 2 words) (held_distinct old h)) k)

number_short : (n : ℤ) → fits_i64 n ≡ true → IsString (signed_decimal n)
number_short n e = let few = (signed_decimal-short n (is_fit n e)).few in omega (arith, few)

sum_keeps : (old : Option (List Field)) (amount n : ℤ) (fitting : Bool) (words : List (List ℕ)) → fits_i64 (n +ℤ amount) ≡ fitting → IsKept old → IsWithinLimits words → KeepsLimits old (adds (fields_held old) amount (Some n) words)
sum_keeps old amount n false words e h k = rw e (stays old _ h)
sum_keeps old amount n true words e h k =
    let new : Field = record { name = word 2 words; value = signed_decimal (n +ℤ amount) } in
    rw e (record {
      value = (
        some_with (fields_held old) new,
        short_with (fields_held old) new (held_short old h) (short_word 2 words k.each, number_short (n +ℤ amount) e),
        distinct_with (fields_held old) new (held_distinct old h),
      );
      effects = (own_small (codes "HINCRBY") words (omega arith) k, tt);
    })

adds_keep : (old : Option (List Field)) (amount : ℤ) (held : Option ℤ) (words : List (List ℕ)) → IsKept old → IsWithinLimits words → KeepsLimits old (adds (fields_held old) amount held words)
adds_keep old amount None words h k = stays old _ h
adds_keep old amount (Some n) words h k = sum_keeps old amount n _ words refl h k

at_least : (size : ℕ) → nat_le 4 size ≡ true → 4 ≤ size
at_least size h = grind (arith, nat_tests)

just : (size : ℕ) → (size == 4) ≡ true → 4 ≤ size
just size h = grind (arith, nat_tests)

pub row_keeps : (cmd : HashCmd) (old : Option (List Field)) (words : List (List ℕ)) → MeetArity (command_row cmd) words → IsKept old → IsWithinLimits words → KeepsLimits old (row cmd old words)
row_keeps command.HSet old words m h k =
    unless_keeps old (no_pairs (codes "HSET") words) (set_fields (fields_held old) words) h (sets_keep old _ words (at_least _ m) h k)
row_keeps command.HMSet old words m h k =
    unless_keeps old (no_pairs (codes "HMSET") words) (sets (fields_held old) (reply.Simple (codes "OK")) words) h
    (sets_keep old (reply.Simple (codes "OK")) words (at_least _ m) h k)
row_keeps command.HSetNx old words m h k =
    if_keeps old (is_some (field_value (fields_held old) (word 2 words))) (answers (reply.Int (pos 0))) (sets (fields_held old) (reply.Int (pos 1)) words)
    (stays old _ h) (sets_keep old (reply.Int (pos 1)) words (just _ m) h k)
row_keeps command.HDel old words m h k = remove_keeps old words h k
row_keeps command.HIncrBy old words m h k =
    unless_keeps old (no_number (i64_of (word 3 words))) (add (fields_held old) words) h
    (adds_keep old (number_in (word 3 words)) (number_held (field_value (fields_held old) (word 2 words))) words h k)
row_keeps command.HGet old words m h k = record { value = h; effects = tt }
row_keeps command.HMGet old words m h k = record { value = h; effects = tt }
row_keeps command.HLen old words m h k = record { value = h; effects = tt }
row_keeps command.HExists old words m h k = record { value = h; effects = tt }
row_keeps command.HStrLen old words m h k = record { value = h; effects = tt }
row_keeps command.HKeys old words m h k = record { value = h; effects = tt }
row_keeps command.HVals old words m h k = record { value = h; effects = tt }
row_keeps command.HGetAll old words m h k = record { value = h; effects = tt }
