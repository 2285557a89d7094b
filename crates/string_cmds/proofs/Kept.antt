-- Serves the clauses of limits_are_kept.
use Rattle.std.proofs.Common.{◌≡◌, ◌≤◌, ◌+◌, ◌++◌, nat_lt, if◌then◌else◌, ℕ, zero, suc, ℤ, pos, negsuc, neg_ℤ, Bool, true, false, List, [], ◌∷◌, length, drop, codes, Option, Some, None, is_some, refl, arith, length-append}
use Rattle.std.specs.Prelude.{◌+ℤ◌}
use Rattle.std.specs.List.{AllByRecursion}
use Rattle.std.specs.Fmt.{signed_decimal}
use Rattle.std.proofs.lemmas.Bool.Decides.{nat_tests}
use Rattle.byte_text.specs.Number.{fits_i64, number_in, number_held}
use Rattle.byte_text.proofs.Decimals.{is_fit, signed_decimal-short}
use Rattle.core_types.specs.Done.{Done, answers, unless_refused}
use Rattle.sequences.specs.Words.{word}
use Rattle.core_types.specs.Keyspace.{IsString, longest}
use Rattle.core_types.specs.declared.refusal.Refusal.{Refusal}
use Rattle.core_types.specs.declared.reply.Reply.{Reply}
use Rattle.string_cmds.specs.declared.command.StringCmd.{StringCmd}
use Rattle.string_cmds.specs.declared.command.StringCmd.TheVariants as command
use Rattle.string_cmds.specs.declared.setting.Condition.{Condition}
use Rattle.string_cmds.specs.Words.{held_bytes}
use Rattle.string_cmds.specs.Setting.{condition_of, no_condition, set_if_absent, set_where, sets}
use Rattle.string_cmds.specs.Writing.{append, append_to, laid_over, lay_over, set_range, within_limit, writes}
use Rattle.string_cmds.specs.Counting.{adds}
use Rattle.string_cmds.specs.Rows.{other_row, row}
use Rattle.core_types.specs.Limits.{IsWithinLimits}
use Rattle.string_cmds.specs.Laws.{IsKept, KeepsLimits}
use Rattle.string_cmds.proofs.Laying.{length-laid_over}

short_word : (place : ℕ) (words : List (List ℕ)) → AllByRecursion IsString words → IsString (word place words)
unfolding word
short_word place [] h = omega arith
short_word zero (first ∷ rest) h = h.0
short_word (suc place) (first ∷ rest) h = short_word place rest h.1

three : (name key value : List ℕ) → IsString name → IsString key → IsString value → IsWithinLimits (name ∷ key ∷ value ∷ [])
three name key value a b c = record { some = omega arith; few = omega arith; each = (a, (b, (c, tt))) }

own_small : (name : List ℕ) (words : List (List ℕ)) → IsString name → IsWithinLimits words → IsWithinLimits (name ∷ drop 1 words)
own_small name [] short h = absurd (omega (arith, h.some))
own_small name (first ∷ rest) short h = record { some = omega arith; few = h.few; each = (short, h.each.1) }

stays : (old : Option (List ℕ)) (said : Reply) → IsKept old → KeepsLimits old (answers said)
stays old said h = record { value = h; effects = tt }

unless_keeps : (old : Option (List ℕ)) (refused : Option Refusal) (done : Done (List ℕ)) → IsKept old → KeepsLimits old done → KeepsLimits old (unless_refused refused done)
unless_keeps old None done h k = k
unless_keeps old (Some why) done h k = record { value = h; effects = tt }

sets_keep : (old : Option (List ℕ)) (said : Reply) (words : List (List ℕ)) → IsWithinLimits words → KeepsLimits old (sets said words)
sets_keep old said words h =
    let value = short_word 2 words h.each in
    record { value = value; effects = (three (codes "SET") (word 1 words) (word 2 words) (omega arith) (short_word 1 words h.each) value, tt) }

if_keeps : (old : Option (List ℕ)) (b : Bool) (d e : Done (List ℕ)) → KeepsLimits old d → KeepsLimits old e → KeepsLimits old (if b then d else e)
if_keeps old true d e h k = h
if_keeps old false d e h k = k

writes_keep : (old : Option (List ℕ)) (bytes name event : List ℕ) (words : List (List ℕ)) → IsString name → IsString bytes → IsWithinLimits words → KeepsLimits old (writes bytes name event words)
writes_keep old bytes name event words a b h = record { value = b; effects = (own_small name words a h, tt) }

limit_keeps : (old : Option (List ℕ)) (size : ℕ) (done : Done (List ℕ)) (b : Bool) → nat_lt longest size ≡ b → IsKept old → (size ≤ longest → KeepsLimits old done) → KeepsLimits old (within_limit size done)
limit_keeps old size done true e h k = rw e (record { value = h; effects = tt })
limit_keeps old size done false e h k = let short : size ≤ longest = grind (arith, nat_tests) in rw e (k short)

append_to_keeps : (old : Option (List ℕ)) (held : List ℕ) (words : List (List ℕ)) → IsKept old → IsWithinLimits words → KeepsLimits old (append_to held words)
append_to_keeps old held words h k =
    limit_keeps old _ _ _ refl h
    (λ short. writes_keep old (held ++ word 2 words) (codes "APPEND") (codes "append") words (omega arith) (simp length-append short) k)

append_keeps : (old : Option (List ℕ)) (words : List (List ℕ)) → IsKept old → IsWithinLimits words → KeepsLimits old (append old words)
append_keeps None words h k = append_to_keeps None [] words h k
append_keeps (Some held) words h k =
    if_keeps (Some held) _ _ _ (stays (Some held) _ h) (append_to_keeps (Some held) held words h k)

held_short : (old : Option (List ℕ)) → IsKept old → IsString (held_bytes old)
held_short None h = omega arith
held_short (Some bytes) h = h

lay_over_keeps : (old : Option (List ℕ)) (held : List ℕ) (start : ℕ) (words : List (List ℕ)) → IsString held → IsKept old → IsWithinLimits words → KeepsLimits old (lay_over held start words)
lay_over_keeps old held start words a h k =
    limit_keeps old (start + length (word 3 words)) _ _ refl h
    (λ (short : start + length (word 3 words) ≤ longest). writes_keep old (laid_over held start (word 3 words)) (codes "SETRANGE") (codes "setrange") words (omega arith)
    (rw (length-laid_over held start (word 3 words)) (omega (arith, short, a))) k)

range_keeps : (old : Option (List ℕ)) (words : List (List ℕ)) → IsKept old → IsWithinLimits words → KeepsLimits old (set_range (held_bytes old) words)
range_keeps old words h k =
    if_keeps old _ _ _ (stays old _ h) (lay_over_keeps old (held_bytes old) _ words (held_short old h) h k)

number_short : (n : ℤ) → fits_i64 n ≡ true → IsString (signed_decimal n)
number_short n e = let few = (signed_decimal-short n (is_fit n e)).few in omega (arith, few)

sum_keeps : (old : Option (List ℕ)) (amount n : ℤ) (words : List (List ℕ)) (a b : Bool) → fits_i64 amount ≡ a → fits_i64 (n +ℤ amount) ≡ b → IsKept old → IsWithinLimits words → KeepsLimits old (adds amount (Some n) words)
sum_keeps old amount n words true true e f h k =
    rw (e, f) (record {
      value = number_short (n +ℤ amount) f;
      effects = (three (codes "INCRBY") (word 1 words) (signed_decimal amount) (omega arith) (short_word 1 words k.each) (number_short amount e), tt);
    })
sum_keeps old amount n words true false e f h k = rw (e, f) (stays old _ h)
sum_keeps old amount n words false b e f h k = rw e (stays old _ h)

adds_keep : (old : Option (List ℕ)) (amount : ℤ) (held : Option ℤ) (words : List (List ℕ)) → IsKept old → IsWithinLimits words → KeepsLimits old (adds amount held words)
adds_keep old amount None words h k = stays old _ h
adds_keep old amount (Some n) words h k = sum_keeps old amount n words _ _ refl refl h k

unless_adds : (old : Option (List ℕ)) (refused : Option Refusal) (amount : ℤ) (held : Option ℤ) (words : List (List ℕ)) → IsKept old → IsWithinLimits words → KeepsLimits old (unless_refused refused (adds amount held words))
unless_adds old refused amount held words h k =
    unless_keeps old refused (adds amount held words) h (adds_keep old amount held words h k)

set_where_keeps : (old : Option (List ℕ)) (asked : Option Condition) (there : Bool) (words : List (List ℕ)) → IsKept old → IsWithinLimits words → KeepsLimits old (set_where asked there words)
set_where_keeps old asked there words h k =
    if_keeps old _ _ _ (sets_keep old _ words k) (stays old _ h)

set_if_absent_keeps : (old : Option (List ℕ)) (there : Bool) (words : List (List ℕ)) → IsKept old → IsWithinLimits words → KeepsLimits old (set_if_absent there words)
set_if_absent_keeps old there words h k =
    if_keeps old _ _ _ (stays old _ h) (sets_keep old _ words k)

pub row_keeps : (cmd : StringCmd) (old : Option (List ℕ)) (words : List (List ℕ)) → IsKept old → IsWithinLimits words → KeepsLimits old (row cmd old words)
row_keeps command.Get old words h k = stays old _ h
row_keeps command.Set old words h k =
    let asked = condition_of (drop 3 words) in
    unless_keeps old (no_condition asked) (set_where asked (is_some old) words) h (set_where_keeps old asked (is_some old) words h k)
row_keeps command.SetNx old words h k = set_if_absent_keeps old _ words h k
row_keeps command.GetSet old words h k = sets_keep old _ words k
row_keeps command.Append old words h k = append_keeps old words h k
row_keeps command.StrLen old words h k = stays old _ h
row_keeps command.GetRange old words h k = unless_keeps old _ _ h (stays old _ h)
row_keeps command.SetRange old words h k = unless_keeps old _ _ h (range_keeps old words h k)
row_keeps command.Incr old words h k = adds_keep old (pos 1) (number_held old) words h k
row_keeps command.Decr old words h k = adds_keep old (negsuc 0) (number_held old) words h k
row_keeps command.IncrBy old words h k = unless_adds old _ (number_in (word 2 words)) (number_held old) words h k
row_keeps command.DecrBy old words h k = unless_adds old _ (neg_ℤ (number_in (word 2 words))) (number_held old) words h k

pub other_keeps : (cmd : StringCmd) (words : List (List ℕ)) → IsWithinLimits words → KeepsLimits None (other_row cmd words)
other_keeps command.Get words k = stays None _ tt
other_keeps command.Set words k =
    let asked = condition_of (drop 3 words) in
    unless_keeps None (no_condition asked) (set_where asked true words) tt (set_where_keeps None asked true words tt k)
other_keeps command.SetNx words k = stays None _ tt
other_keeps command.GetSet words k = stays None _ tt
other_keeps command.Append words k = stays None _ tt
other_keeps command.StrLen words k = stays None _ tt
other_keeps command.GetRange words k = unless_keeps None _ _ tt (stays None _ tt)
other_keeps command.SetRange words k = unless_keeps None _ _ tt (stays None _ tt)
other_keeps command.Incr words k = stays None _ tt
other_keeps command.Decr words k = stays None _ tt
other_keeps command.IncrBy words k = unless_keeps None _ _ tt (stays None _ tt)
other_keeps command.DecrBy words k = unless_keeps None _ _ tt (stays None _ tt)
