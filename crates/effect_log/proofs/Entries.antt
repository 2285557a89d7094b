-- One thing stands where a request is due.
use Rattle.std.proofs.Common.{◌≡◌, ℕ, ◌<◌, Bool, true, false, cond, List, [], ◌∷◌, ◌++◌, length, drop, refl, sym, ap, ◌∙◌, append_assoc, arith, inl, inr}
use Rattle.std.specs.List.{AllByRecursion}
use Rattle.std.specs.Str.{str_to_ascii_lowercase}
use Rattle.std.proofs.lemmas.Bool.{false≢true, false_from_ne_true}
use Rattle.std.proofs.lemmas.List.{length-append, drop_at, append_cancel_left}
use Rattle.std.proofs.lemmas.Slice.Eq.{bytes_eq-Decides}
use Rattle.core_types.specs.declared.effect.Effect.{Effect}
use Rattle.core_types.specs.declared.bad_request.BadRequest.{BadRequest}
use Rattle.resp_codec.specs.Spelling.{multibulk}
use Rattle.resp_codec.specs.Inline.{begins_array}
use Rattle.resp_codec.specs.Array.{IsFront, IsBadArray, BeginsRequest}
use Rattle.resp_codec.specs.declared.array.Array.{Array}
use Rattle.resp_codec.specs.declared.array.Array.TheVariants as array
use Rattle.resp_codec.proofs.OneReading.{fault_one, request_no_fault, skip_no_fault}
use Rattle.effect_log.specs.Unit.{multi, exec, effect_text, is_named, IsLoggable}
use Rattle.effect_log.specs.Log.{effects_text, IsRequestNamed, BeginsNamed}
use Rattle.effect_log.specs.Entry.{IsNamedFront, IsEntry, IsEntryOf}
use Rattle.effect_log.specs.declared.entry.Entry.{Entry}
use Rattle.effect_log.specs.declared.entry.Entry.TheVariants as entry
use Rattle.effect_log.specs.declared.reason.Reason.TheVariants as reason
use Rattle.resp_codec.proofs.Fronts.{some_front, one_front}

-- no name is another
named_one : (words : List (List ℕ)) → is_named multi words ≡ true → ¬ (is_named exec words ≡ true)
named_one [] opens closes = false≢true opens
named_one (word ∷ words) opens closes =
    let long = (bytes_eq-Decides (str_to_ascii_lowercase word) (str_to_ascii_lowercase multi)).0 opens in
    let short = (bytes_eq-Decides (str_to_ascii_lowercase word) (str_to_ascii_lowercase exec)).0 closes in
    omega (arith, ap (λ (bs : List ℕ). length bs) long, ap (λ (bs : List ℕ). length bs) short)

exec_no_multi : (words : List (List ℕ)) → is_named exec words ≡ true → is_named multi words ≡ false
exec_no_multi words closes = false_from_ne_true (is_named multi words) (λ opens. named_one words opens closes)

-- what an array is where a request is due
abbrev entry_of : Array → Entry
entry_of (array.Request words size) = cond (is_named multi words) (entry.Multi size) (cond (is_named exec words) (entry.Exec size) (entry.Effect record { words = words } size))
entry_of array.Empty = entry.Bad 0 reason.NotMultibulk
entry_of array.Other = entry.Bad 0 reason.NotMultibulk
entry_of array.Unfinished = entry.Unfinished
entry_of (array.Bad kind place) = entry.Bad place (reason.Request kind)

-- the array that an entry is
IsEntry-front : (bytes : List ℕ) (e : Entry) → 0 < length bytes → IsEntry bytes e → (a : Array) × IsFront bytes a × (entry_of a ≡ e)
IsEntry-front bytes (entry.Multi size) some front =
    (array.Request front.words size, (record { request = front.request; more = drop size bytes; whole = front.whole }, front.size_is), rw front.named refl)
IsEntry-front bytes (entry.Exec size) some front =
    (array.Request front.words size, (record { request = front.request; more = drop size bytes; whole = front.whole }, front.size_is), rw (exec_no_multi front.words front.named, front.named) refl)
IsEntry-front bytes (entry.Effect effect size) some front =
    (array.Request effect.words size, (record { request = front.loggable.request; more = drop size bytes; whole = front.whole }, front.size_is), rw (front.loggable.opens_none, front.loggable.closes_none) refl)
IsEntry-front bytes entry.Unfinished some (inl none) = absurd (omega (arith, ap (λ (bs : List ℕ). length bs) none))
IsEntry-front bytes entry.Unfinished some (inr unfinished) = (array.Unfinished, unfinished, refl)
IsEntry-front bytes (entry.Bad place (reason.Request kind)) some bad = (array.Bad kind place, bad, refl)
IsEntry-front bytes (entry.Bad place reason.NotMultibulk) some (inl other, zero_is, any) = (array.Other, other, ap (λ (k : ℕ). entry.Bad k reason.NotMultibulk) (sym zero_is))
IsEntry-front bytes (entry.Bad place reason.NotMultibulk) some (inr empty, zero_is, any) = (array.Empty, empty, ap (λ (k : ℕ). entry.Bad k reason.NotMultibulk) (sym zero_is))
IsEntry-front bytes (entry.Bad place reason.NotAnEffect) some bad = absurd bad
IsEntry-front bytes (entry.Bad place reason.EffectRefused) some bad = absurd bad
IsEntry-front bytes (entry.Bad place (reason.Rdb cause)) some bad = absurd bad
IsEntry-front bytes (entry.Bad place reason.NestedMulti) some bad = absurd bad
IsEntry-front bytes (entry.Bad place reason.LoneExec) some bad = absurd bad

pub multibulk_some : (words : List (List ℕ)) → 0 < length (multibulk words)
multibulk_some words = omega arith

-- no byte stands where no byte is
IsEntry-none : (bytes : List ℕ) (e : Entry) → length bytes ≡ 0 → IsEntry bytes e → e ≡ entry.Unfinished
IsEntry-none bytes (entry.Multi size) none front = absurd (omega (arith, multibulk_some front.words, ap (λ (bs : List ℕ). length bs) front.whole, length-append (multibulk front.words) (drop size bytes)))
IsEntry-none bytes (entry.Exec size) none front = absurd (omega (arith, multibulk_some front.words, ap (λ (bs : List ℕ). length bs) front.whole, length-append (multibulk front.words) (drop size bytes)))
IsEntry-none bytes (entry.Effect effect size) none front = absurd (omega (arith, multibulk_some effect.words, ap (λ (bs : List ℕ). length bs) front.whole, length-append (multibulk effect.words) (drop size bytes)))
IsEntry-none bytes entry.Unfinished none unfinished = refl
IsEntry-none bytes (entry.Bad place (reason.Request kind)) none bad = absurd (omega (arith, bad.1))
IsEntry-none bytes (entry.Bad place reason.NotMultibulk) none bad = absurd (omega (arith, bad.2))
IsEntry-none bytes (entry.Bad place reason.NotAnEffect) none bad = absurd bad
IsEntry-none bytes (entry.Bad place reason.EffectRefused) none bad = absurd bad
IsEntry-none bytes (entry.Bad place (reason.Rdb cause)) none bad = absurd bad
IsEntry-none bytes (entry.Bad place reason.NestedMulti) none bad = absurd bad
IsEntry-none bytes (entry.Bad place reason.LoneExec) none bad = absurd bad

pub IsEntry-one : (bytes : List ℕ) (e f : Entry) → IsEntry bytes e → IsEntry bytes f → e ≡ f
IsEntry-one [] e f of_e of_f = IsEntry-none [] e refl of_e ∙ sym (IsEntry-none [] f refl of_f)
IsEntry-one (byte ∷ bytes) e f of_e of_f =
    let a = IsEntry-front (byte ∷ bytes) e (omega arith) of_e in
    let b = IsEntry-front (byte ∷ bytes) f (omega arith) of_f in
    sym a.2 ∙ ap entry_of (one_front (byte ∷ bytes) a.0 b.0 a.1 b.1) ∙ b.2

-- what is left behind a front
pub front_rest : (bytes text more : List ℕ) (size : ℕ) → bytes ≡ text ++ more → size ≡ length text → bytes ≡ text ++ drop size bytes
front_rest bytes text more size whole is = whole ∙ ap (λ (bs : List ℕ). text ++ bs) (sym (ap (λ (bs : List ℕ). drop size bs) whole ∙ drop_at text more size (sym is)))

request_entry : (bytes : List ℕ) (words : List (List ℕ)) (size : ℕ) (opens closes : Bool) → is_named multi words ≡ opens → is_named exec words ≡ closes → BeginsRequest bytes words → size ≡ length (multibulk words) → (e : Entry) × IsEntry bytes e
request_entry bytes words size true closes is_multi is_exec begins is =
    (entry.Multi size, record { words = words; request = begins.request; named = is_multi; whole = front_rest bytes (multibulk words) begins.more size begins.whole is; size_is = is })
request_entry bytes words size false true is_multi is_exec begins is =
    (entry.Exec size, record { words = words; request = begins.request; named = is_exec; whole = front_rest bytes (multibulk words) begins.more size begins.whole is; size_is = is })
request_entry bytes words size false false is_multi is_exec begins is =
    (entry.Effect record { words = words } size, record { loggable = record { request = begins.request; opens_none = is_multi; closes_none = is_exec }; whole = front_rest bytes (multibulk words) begins.more size begins.whole is; size_is = is })

-- a request is what its words are to the unit
pub IsEntry-request : (bytes : List ℕ) (words : List (List ℕ)) (size : ℕ) (e : Entry) → IsFront bytes (array.Request words size) → IsEntryOf words size e → IsEntry bytes e
IsEntry-request bytes words size (entry.Multi taken) front of =
    let takes : taken ≡ length (multibulk words) = of.0 ∙ front.1 in
    record { words = words; request = front.0.request; named = of.1; whole = front_rest bytes (multibulk words) front.0.more taken front.0.whole takes; size_is = takes }
IsEntry-request bytes words size (entry.Exec taken) front of =
    let takes : taken ≡ length (multibulk words) = of.0 ∙ front.1 in
    record { words = words; request = front.0.request; named = of.1; whole = front_rest bytes (multibulk words) front.0.more taken front.0.whole takes; size_is = takes }
IsEntry-request bytes words size (entry.Effect effect taken) front of =
    let takes : taken ≡ length (multibulk words) = of.0 ∙ front.1 in
    rw of.1 record {
      loggable = record { request = front.0.request; opens_none = of.2; closes_none = of.3 };
      whole = front_rest bytes (multibulk words) front.0.more taken front.0.whole takes;
      size_is = takes;
    }
IsEntry-request bytes words size entry.Unfinished front of = absurd of
IsEntry-request bytes words size (entry.Bad place why) front of = absurd of

array_entry : (bytes : List ℕ) (a : Array) → 0 < length bytes → IsFront bytes a → (e : Entry) × IsEntry bytes e
array_entry bytes (array.Request words size) some front = request_entry bytes words size (is_named multi words) (is_named exec words) refl refl front.0 front.1
array_entry bytes array.Empty some front = (entry.Bad 0 reason.NotMultibulk, (inr front, refl, some))
array_entry bytes array.Other some front = (entry.Bad 0 reason.NotMultibulk, (inl front, refl, some))
array_entry bytes array.Unfinished some front = (entry.Unfinished, inr front)
array_entry bytes (array.Bad kind place) some front = (entry.Bad place (reason.Request kind), front)

pub IsEntry-some : (bytes : List ℕ) → (e : Entry) × IsEntry bytes e
IsEntry-some [] = (entry.Unfinished, inl refl)
IsEntry-some (byte ∷ bytes) =
    let found = some_front (byte ∷ bytes) (omega arith) in
    array_entry (byte ∷ bytes) found.0 (omega arith) found.1

-- a bad place is one of the bytes
bad_within : (bytes : List ℕ) (kind : BadRequest) (at : ℕ) (a : Array) → IsBadArray bytes kind at → IsFront bytes a → at < length bytes
bad_within bytes kind at (array.Request words size) bad front =
    let begins = front.0 in
    absurd (request_no_fault words (multibulk words) begins.more kind at (begins.request, inl refl) (rw begins.whole at bad.bad))
bad_within bytes kind at array.Empty bad front =
    absurd (skip_no_fault front.front front.more kind at (inl front.empty) (rw front.whole at bad.bad))
bad_within bytes kind at array.Other bad front = absurd (false≢true (sym front.1 ∙ bad.array))
bad_within bytes kind at array.Unfinished bad front = absurd (front.unfinished.no_fault kind at bad.bad)
bad_within bytes kind at (array.Bad other place) bad front =
    let same = fault_one bytes kind other at place bad.bad front.0.bad in
    omega (arith, same.1, front.1)

array_some : (bytes : List ℕ) → begins_array bytes ≡ true → 0 < length bytes
array_some [] array = absurd (false≢true array)
array_some (byte ∷ bytes) array = omega arith

pub IsBadArray-entry : (bytes : List ℕ) (kind : BadRequest) (at : ℕ) → IsBadArray bytes kind at → IsEntry bytes (entry.Bad at (reason.Request kind))
IsBadArray-entry bytes kind at bad =
    let found = some_front bytes (array_some bytes bad.array) in
    (bad, bad_within bytes kind at found.0 bad found.1)

pub effect_entry : (effect : Effect) (more : List ℕ) → IsLoggable effect → IsEntry (effect_text effect ++ more) (entry.Effect effect (length (effect_text effect)))
effect_entry effect more loggable = record { loggable = loggable; whole = front_rest (effect_text effect ++ more) (effect_text effect) more (length (effect_text effect)) refl refl; size_is = refl }

pub named_entry : (name opening more : List ℕ) → IsRequestNamed name opening → IsNamedFront name (opening ++ more) (length opening)
named_entry name opening more named = record {
  words = named.words;
  request = named.request;
  named = named.named;
  whole = front_rest (opening ++ more) (multibulk named.words) more (length opening) (ap (λ (bs : List ℕ). bs ++ more) named.whole) (ap (λ (bs : List ℕ). length bs) named.whole);
  size_is = ap (λ (bs : List ℕ). length bs) named.whole;
}

pub begins_entry : (name bytes : List ℕ) → BeginsNamed name bytes → (size : ℕ) × IsNamedFront name bytes size
begins_entry name bytes begins = (
  length (multibulk begins.words),
  record {
    words = begins.words;
    request = begins.begins.request;
    named = begins.named;
    whole = front_rest bytes (multibulk begins.words) begins.begins.more (length (multibulk begins.words)) begins.begins.whole refl;
    size_is = refl;
  },
)

abbrev pub is_effect : Entry → Bool
is_effect (entry.Multi size) = false
is_effect (entry.Exec size) = false
is_effect (entry.Effect effect size) = true
is_effect entry.Unfinished = false
is_effect (entry.Bad place why) = false

-- no effect stands where something else does
no_effect : (bytes : List ℕ) (effect : Effect) (more : List ℕ) (e : Entry) → IsLoggable effect → is_effect e ≡ false → IsEntry bytes e → ¬ (bytes ≡ effect_text effect ++ more)
no_effect bytes effect more e loggable other of_e whole =
    let same = IsEntry-one (effect_text effect ++ more) (entry.Effect effect (length (effect_text effect))) e (effect_entry effect more loggable) (rw whole at of_e) in
    false≢true (sym other ∙ ap is_effect (sym same))

-- effects have one reading, up to what is none
pub same_effects : (es fs : List Effect) (r s : List ℕ) (a b : Entry) → AllByRecursion IsLoggable es → AllByRecursion IsLoggable fs → is_effect a ≡ false → is_effect b ≡ false → IsEntry r a → IsEntry s b → effects_text es ++ r ≡ effects_text fs ++ s →
    (es ≡ fs) × (r ≡ s) × (a ≡ b)
same_effects [] [] r s a b each_e each_f other_a other_b of_a of_b whole =
    (refl, whole, IsEntry-one s a b (rw whole at of_a) of_b)
same_effects [] (f ∷ fs) r s a b each_e each_f other_a other_b of_a of_b whole =
    absurd (no_effect r f (effects_text fs ++ s) a each_f.0 other_a of_a (whole ∙ append_assoc (effect_text f) (effects_text fs) s))
same_effects (e ∷ es) [] r s a b each_e each_f other_a other_b of_a of_b whole =
    absurd (no_effect s e (effects_text es ++ r) b each_e.0 other_b of_b (sym whole ∙ append_assoc (effect_text e) (effects_text es) r))
same_effects (e ∷ es) (f ∷ fs) r s a b each_e each_f other_a other_b of_a of_b whole =
    let parts : effect_text e ++ (effects_text es ++ r) ≡ effect_text f ++ (effects_text fs ++ s) = sym (append_assoc (effect_text e) (effects_text es) r) ∙ whole ∙ append_assoc (effect_text f) (effects_text fs) s in
    let entries = IsEntry-one (effect_text f ++ (effects_text fs ++ s)) (entry.Effect e (length (effect_text e))) (entry.Effect f (length (effect_text f))) (rw parts at (effect_entry e (effects_text es ++ r) each_e.0)) (effect_entry f (effects_text fs ++ s) each_f.0) in
    let same : e ≡ f = cc in
    let behind : effects_text es ++ r ≡ effects_text fs ++ s = append_cancel_left (effect_text f) (effects_text es ++ r) (effects_text fs ++ s) (ap (λ (x : Effect). effect_text x ++ (effects_text es ++ r)) (sym same) ∙ parts) in
    let others = same_effects es fs r s a b each_e.1 each_f.1 other_a other_b of_a of_b behind in
    (ap (λ (x : Effect). x ∷ es) same ∙ ap (λ (xs : List Effect). f ∷ xs) others.0, others.1, others.2)
