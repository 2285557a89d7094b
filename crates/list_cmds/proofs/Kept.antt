-- Serves the clause of limits_are_kept.
use Rattle.std.proofs.Common.{◌≡◌, ◌<◌, ◌+◌, ◌-◌, ◌++◌, if◌then◌else◌, ℕ, zero, suc, ℤ, pos, negsuc, Bool, true, false, List, [], ◌∷◌, length, take, drop, reverse, slice_set, codes, Option, Some, None, refl, sym, subst, arith, length-append, length-set}
use Rattle.std.specs.Prelude.{◌==◌}
use Rattle.std.specs.List.{AllByRecursion}
use Rattle.std.specs.Str.{bytes_eq}
use Rattle.std.proofs.lemmas.Bool.Decides.{nat_tests}
use Rattle.std.proofs.lemmas.Grind.{reverse_onto}
use Rattle.std.proofs.lemmas.List.{length-reverse}
use Rattle.byte_text.specs.Number.{number_in}
use Rattle.core_types.specs.CommandRow.{MeetArity}
use Rattle.core_types.specs.Done.{Change, Done, answers, changes, own_words, unless_refused}
use Rattle.sequences.specs.Words.{word}
use Rattle.core_types.specs.Equal.{without_first, without_last}
use Rattle.core_types.specs.Keyspace.{IsString}
use Rattle.core_types.specs.declared.refusal.Refusal.{Refusal}
use Rattle.core_types.specs.declared.reply.Reply.{Reply}
use Rattle.list_cmds.specs.declared.command.ListCmd.{ListCmd}
use Rattle.list_cmds.specs.declared.command.ListCmd.TheVariants as command
use Rattle.list_cmds.specs.Commands.{command_row}
use Rattle.list_cmds.specs.Words.{held_items, list_note}
use Rattle.list_cmds.specs.Adding.{push_back, push_front, set_at, set_item}
use Rattle.list_cmds.specs.Taking.{leaves, remove, trim, without}
use Rattle.list_cmds.specs.Rows.{refusal, row, served}
use Rattle.core_types.specs.Limits.{IsWithinLimits}
use Rattle.list_cmds.specs.Laws.{IsKept, KeepsLimits}

abbrev Short : List (List ℕ) → Type 0
Short items = AllByRecursion IsString items

short_append : (xs ys : List (List ℕ)) → Short xs → Short ys → Short (xs ++ ys)
short_append [] ys h k = k
short_append (x ∷ xs) ys h k = (h.0, short_append xs ys h.1 k)

short_drop : (n : ℕ) (xs : List (List ℕ)) → Short xs → Short (drop n xs)
short_drop zero xs h = h
short_drop (suc n) [] h = tt
short_drop (suc n) (x ∷ xs) h = short_drop n xs h.1

short_take : (n : ℕ) (xs : List (List ℕ)) → Short xs → Short (take n xs)
short_take zero xs h = tt
short_take (suc n) [] h = tt
short_take (suc n) (x ∷ xs) h = (h.0, short_take n xs h.1)

short_set : (xs : List (List ℕ)) (n : ℕ) (x : List ℕ) → Short xs → IsString x → Short (slice_set xs n x)
short_set [] n x h k = tt
short_set (y ∷ ys) zero x h k = (k, h.1)
short_set (y ∷ ys) (suc n) x h k = (h.0, short_set ys n x h.1 k)

short_reverse : (xs : List (List ℕ)) → Short xs → Short (reverse xs)
short_reverse [] h = tt
short_reverse (x ∷ xs) h =
    subst Short (sym (reverse_onto xs x [])) (short_append (reverse xs) (x ∷ []) (short_reverse xs h.1) (h.0, tt))

short_if : (b : Bool) (x : List ℕ) (with_it without_it : List (List ℕ)) → IsString x → Short without_it → Short with_it → Short (if b then without_it else x ∷ with_it)
short_if true x with_it without_it a h k = h
short_if false x with_it without_it a h k = (a, k)

short_first : (most : ℕ) (item : List ℕ) (xs : List (List ℕ)) → Short xs → Short (without_first most item xs)
short_first most item [] h = tt
short_first zero item (x ∷ xs) h = h
short_first (suc most) item (x ∷ xs) h = short_if (bytes_eq x item) x _ _ h.0 (short_first most item xs h.1) (short_first (suc most) item xs h.1)

short_last : (most : ℕ) (item : List ℕ) (xs : List (List ℕ)) → Short xs → Short (without_last most item xs)
short_last most item xs h = short_reverse _ (short_first most item (reverse xs) (short_reverse xs h))

short_without : (n : ℤ) (item : List ℕ) (xs : List (List ℕ)) → Short xs → Short (without n item xs)
short_without (pos zero) item xs h = short_first (length xs) item xs h
short_without (pos (suc n)) item xs h = short_first (suc n) item xs h
short_without (negsuc n) item xs h = short_last (n + 1) item xs h

short_word : (place : ℕ) (words : List (List ℕ)) → Short words → IsString (word place words)
unfolding word
short_word place [] h = omega arith
short_word zero (first ∷ rest) h = h.0
short_word (suc place) (first ∷ rest) h = short_word place rest h.1

own_small : (name : List ℕ) (words : List (List ℕ)) → IsString name → IsWithinLimits words → IsWithinLimits (name ∷ drop 1 words)
own_small name [] short h = absurd (omega (arith, h.some))
own_small name (first ∷ rest) short h = record { some = omega arith; few = h.few; each = (short, h.each.1) }

stays : (old : Option (List (List ℕ))) (said : Reply) → IsKept old → KeepsLimits old (answers said)
stays old said h = record { value = h; effects = tt }

unless_keeps : (old : Option (List (List ℕ))) (refused : Option Refusal) (done : Done (List (List ℕ))) → IsKept old → KeepsLimits old done → KeepsLimits old (unless_refused refused done)
unless_keeps old None done h k = k
unless_keeps old (Some why) done h k = record { value = h; effects = tt }

if_keeps : (old : Option (List (List ℕ))) (b : Bool) (d e : Done (List (List ℕ))) → KeepsLimits old d → KeepsLimits old e → KeepsLimits old (if b then d else e)
if_keeps old true d e h k = h
if_keeps old false d e h k = k

held_short : (old : Option (List (List ℕ))) → IsKept old → Short (held_items old)
held_short None h = tt
held_short (Some items) h = h.1

becomes : (old : Option (List (List ℕ))) (items : List (List ℕ)) (said : Reply) (name event : List ℕ) (words : List (List ℕ)) → 0 < length items → Short items → IsString name → IsWithinLimits words → KeepsLimits old (changes (Change.Becomes items) said (own_words name words) (list_note event words))
becomes old items said name event words some short a h = record { value = (some, short); effects = (own_small name words a h, tt) }

leaves_by : (old : Option (List (List ℕ))) (left : List (List ℕ)) (said : Reply) (name event : List ℕ) (words : List (List ℕ)) (b : Bool) → (length left == 0) ≡ b → Short left → IsString name → IsWithinLimits words → KeepsLimits old (leaves left said name event words)
leaves_by old left said name event words true e short a h = rw e (record { value = tt; effects = (own_small name words a h, tt) })
leaves_by old left said name event words false e short a h =
    let some : 0 < length left = grind (arith, nat_tests) in
    rw e (becomes old left said name event words some short a h)

many : (words : List (List ℕ)) → MeetArity (command_row command.LPush) words → 0 < length (drop 2 words)
many [] h = cc
many (a ∷ []) h = cc
many (a ∷ b ∷ []) h = cc
many (a ∷ b ∷ c ∷ rest) h = omega arith

front_keeps : (old : Option (List (List ℕ))) (words : List (List ℕ)) → MeetArity (command_row command.LPush) words → IsKept old → IsWithinLimits words → KeepsLimits old (push_front (held_items old) words)
front_keeps old words arity h k =
    let items = drop 2 words in
    let some : 0 < length (reverse items ++ held_items old) = rw (length-append (reverse items) (held_items old), length-reverse items) (omega (arith, many words arity)) in
    becomes old _ _ (codes "LPUSH") (codes "lpush") words some
    (short_append (reverse items) (held_items old) (short_reverse items (short_drop 2 words k.each)) (held_short old h)) (omega arith) k

back_keeps : (old : Option (List (List ℕ))) (words : List (List ℕ)) → MeetArity (command_row command.RPush) words → IsKept old → IsWithinLimits words → KeepsLimits old (push_back (held_items old) words)
back_keeps old words arity h k =
    let items = drop 2 words in
    let some : 0 < length (held_items old ++ items) = rw (length-append (held_items old) items) (omega (arith, many words arity)) in
    becomes old _ _ (codes "RPUSH") (codes "rpush") words some
    (short_append (held_items old) items (held_short old h) (short_drop 2 words k.each)) (omega arith) k

set_at_keeps : (items words : List (List ℕ)) (place : Option ℕ) → IsKept (Some items) → IsWithinLimits words → KeepsLimits (Some items) (set_at items place words)
set_at_keeps items words None h k = stays (Some items) _ h
set_at_keeps items words (Some place) h k =
    let some : 0 < length (slice_set items place (word 3 words)) = rw (length-set items place (word 3 words)) h.0 in
    becomes (Some items) (slice_set items place (word 3 words)) _ (codes "LSET") (codes "lset") words some
    (short_set items place (word 3 words) h.1 (short_word 3 words k.each)) (omega arith) k

set_keeps : (old : Option (List (List ℕ))) (words : List (List ℕ)) → IsKept old → IsWithinLimits words → KeepsLimits old (set_item old words)
set_keeps None words h k = stays None _ h
set_keeps (Some items) words h k = set_at_keeps items words _ h k

trim_keeps : (old : Option (List (List ℕ))) (words : List (List ℕ)) → IsKept old → IsWithinLimits words → KeepsLimits old (trim old words)
trim_keeps None words h k = stays None _ h
trim_keeps (Some items) words h k =
    leaves_by (Some items) _ _ (codes "LTRIM") (codes "ltrim") words _ refl (short_take _ _ (short_drop _ items h.1)) (omega arith) k

remove_keeps : (old : Option (List (List ℕ))) (words : List (List ℕ)) → IsKept old → IsWithinLimits words → KeepsLimits old (remove (held_items old) words)
remove_keeps old words h k =
    if_keeps old _ _ _ (stays old _ h)
    (leaves_by old (without (number_in (word 2 words)) (word 3 words) (held_items old)) _ (codes "LREM") (codes "lrem") words _ refl (short_without (number_in (word 2 words)) (word 3 words) (held_items old) (held_short old h)) (omega arith) k)

pub row_keeps : (cmd : ListCmd) (old : Option (List (List ℕ))) (words : List (List ℕ)) → MeetArity (command_row cmd) words → IsKept old → IsWithinLimits words → KeepsLimits old (row cmd old words)
row_keeps command.LPush old words arity h k = front_keeps old words arity h k
row_keeps command.RPush old words arity h k = back_keeps old words arity h k
row_keeps command.LPop old words arity h k =
    if_keeps old _ _ _ (stays old _ h)
    (leaves_by old (drop 1 (held_items old)) _ (codes "LPOP") (codes "lpop") words _ refl (short_drop 1 (held_items old) (held_short old h)) (omega arith) k)
row_keeps command.RPop old words arity h k =
    if_keeps old _ _ _ (stays old _ h)
    (leaves_by old (take (length (held_items old) - 1) (held_items old)) _ (codes "RPOP") (codes "rpop") words _ refl (short_take _ (held_items old) (held_short old h)) (omega arith) k)
row_keeps command.LLen old words arity h k = stays old _ h
row_keeps command.LIndex old words arity h k =
    unless_keeps old (refusal command.LIndex words) (served command.LIndex old words) h (stays old (served command.LIndex old words).reply h)
row_keeps command.LRange old words arity h k =
    unless_keeps old (refusal command.LRange words) (served command.LRange old words) h (stays old (served command.LRange old words).reply h)
row_keeps command.LSet old words arity h k =
    unless_keeps old (refusal command.LSet words) (served command.LSet old words) h (set_keeps old words h k)
row_keeps command.LTrim old words arity h k =
    unless_keeps old (refusal command.LTrim words) (served command.LTrim old words) h (trim_keeps old words h k)
row_keeps command.LRem old words arity h k =
    unless_keeps old (refusal command.LRem words) (served command.LRem old words) h (remove_keeps old words h k)
