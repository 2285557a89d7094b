-- What was written is read back.
use Rattle.std.proofs.Common.{◌≡◌, ◌⊎◌, ℕ, zero, suc, ◌+◌, ◌-◌, ◌<◌, ◌≤◌, true, List, [], ◌∷◌, ◌++◌, length, take, drop, refl, sym, ap, subst, ◌∙◌, append_assoc, append-nil, arith, inl, inr, lit<, lit≤}
use Rattle.std.specs.List.{AllByRecursion}
use Rattle.std.proofs.lemmas.List.{length-append, length-take-le, take-append-drop, take-append-le}
use Rattle.std.proofs.lemmas.Bool.{cases_lt}
use Rattle.std.proofs.lemmas.Grind.{flat_map-append}
use Rattle.std.proofs.Math.Seq.{take-append-add}
use Rattle.core_types.specs.declared.effect.Effect.{Effect}
use Rattle.resp_codec.specs.Spelling.{multibulk, IsRequest, Spells}
use Rattle.resp_codec.specs.Inline.{begins_array}
use Rattle.resp_codec.specs.Array.{IsUnfinishedArray}
use Rattle.resp_codec.proofs.OneReading.{requests_one, apart, fault_stays, request_no_fault}
use Rattle.effect_log.specs.Unit.{unit, multi, exec, effect_text, IsLoggable}
use Rattle.effect_log.specs.Log.{effects_text, unit_bytes, units_bytes, IsRequestNamed, IsUnit, IsOpened, IsTorn, HoldsUnits}
use Rattle.effect_log.specs.Written.{AreLoggable, log_text, written, units_written}
use Rattle.effect_log.proofs.OpenedUnits.{AllByRecursion-append}

front_begins : (n : ℕ) (words : List (List ℕ)) → 0 < n → begins_array (take n (multibulk words)) ≡ true
front_begins zero words some = absurd (omega arith)
front_begins (suc n) words some = refl

-- a front of a request is an unfinished one
request_cut : (words : List (List ℕ)) (n : ℕ) → IsRequest words → 0 < n → n < length (multibulk words) → IsUnfinishedArray (take n (multibulk words))
request_cut words n request some short =
    let whole = multibulk words in
    let spells : Spells whole words = (request, inl refl) in
    let cut : whole ++ [] ≡ take n whole ++ drop n whole = append-nil whole ∙ sym (take-append-drop n whole) in
    let size : length (take n whole) ≡ n = length-take-le n whole (omega arith) in
    record {
      array = front_begins n words some;
      unfinished = record {
        no_request = λ front more others spells_front e.
            let joined : whole ++ [] ≡ front ++ (more ++ drop n whole) = cut ∙ ap (λ (bs : List ℕ). bs ++ drop n whole) e ∙ append_assoc front more (drop n whole) in
            let same = (requests_one words others whole front [] (more ++ drop n whole) spells spells_front joined).0 in
            omega (arith, ap (λ (bs : List ℕ). length bs) same, ap (λ (bs : List ℕ). length bs) e, length-append front more, size, short);
        no_skip = λ front more skips e. apart words whole front [] (more ++ drop n whole) spells skips (cut ∙ ap (λ (bs : List ℕ). bs ++ drop n whole) e ∙ append_assoc front more (drop n whole));
        no_fault = λ kind at bad. request_no_fault words whole [] kind at spells (rw cut (fault_stays (take n whole) (drop n whole) kind at bad));
      };
    }

-- a front of a request, or nothing
request_front : (words : List (List ℕ)) (n : ℕ) → IsRequest words → n < length (multibulk words) → (take n (multibulk words) ≡ []) ⊎ IsUnfinishedArray (take n (multibulk words))
request_front words zero request short = inl refl
request_front words (suc n) request short = inr (request_cut words (suc n) request (omega arith) short)

-- a request of one word that is no longer than a word may be
name_request : (name : List ℕ) → length name ≤ 536870912 → IsRequest (name ∷ [])
name_request name short = record { some = lit< tt; few = lit≤ tt; each = (short, tt) }

add_back : (n k : ℕ) → k ≤ n → k + (n - k) ≡ n
add_back n k within = omega arith

multi_opens : IsRequestNamed multi (multibulk (multi ∷ []))
multi_opens = record { words = multi ∷ []; request = name_request multi (lit≤ tt); named = refl; whole = refl }

exec_closes : IsRequestNamed exec (multibulk (exec ∷ []))
exec_closes = record { words = exec ∷ []; request = name_request exec (lit≤ tt); named = refl; whole = refl }

-- whole effects and a front of what comes next
record IsCut (bytes : List ℕ) : Type 0 where
  effects : List Effect
  rest : List ℕ
  each : AllByRecursion IsLoggable effects
  begun : (rest ≡ []) ⊎ IsUnfinishedArray rest
  whole : bytes ≡ effects_text effects ++ rest

cut_here : (words : List (List ℕ)) (more : List ℕ) (n : ℕ) → IsRequest words → n < length (multibulk words) → IsCut (take n (multibulk words ++ more))
cut_here words more n request short = record {
  effects = [];
  rest = take n (multibulk words);
  each = tt;
  begun = request_front words n request short;
  whole = take-append-le n (multibulk words) more (omega arith);
}

cut_later : (effect : Effect) (more : List ℕ) (n : ℕ) → IsLoggable effect → IsCut (take n more) → IsCut (take (length (effect_text effect) + n) (effect_text effect ++ more))
cut_later effect more n loggable cut = record {
  effects = effect ∷ cut.effects;
  rest = cut.rest;
  each = (loggable, cut.each);
  begun = cut.begun;
  whole = take-append-add (effect_text effect) more n ∙ ap (λ (bs : List ℕ). effect_text effect ++ bs) cut.whole ∙ sym (append_assoc (effect_text effect) (effects_text cut.effects) cut.rest);
}

-- a front of effects and of the request that closes them
effects_cut : (effects : List Effect) (words : List (List ℕ)) (n : ℕ) → AllByRecursion IsLoggable effects → IsRequest words → n < length (effects_text effects ++ multibulk words) → IsCut (take n (effects_text effects ++ multibulk words))
effects_cut [] words n each request short = subst (λ (bs : List ℕ). IsCut (take n bs)) (append-nil (multibulk words)) (cut_here words [] n request short)
effects_cut (effect ∷ effects) words n each request short =
    let text = effect_text effect in
    let more = effects_text effects ++ multibulk words in
    let parts : effects_text (effect ∷ effects) ++ multibulk words ≡ text ++ more = append_assoc text (effects_text effects) (multibulk words) in
    subst (λ (bs : List ℕ). IsCut (take n bs)) (sym parts) (elim (cases_lt n (length text)) [
      | inl here ↦ cut_here effect.words more n each.0.request here
      | inr later ↦ subst (λ (k : ℕ). IsCut (take k (text ++ more))) (add_back n (length text) later)
          (cut_later effect more (n - length text) each.0 (effects_cut effects words (n - length text) each.1 request (omega (arith, ap (λ (bs : List ℕ). length bs) parts, length-append text more))))
    ])

opened_with : (effects : List Effect) → AllByRecursion IsLoggable effects → IsOpened (multibulk (multi ∷ []) ++ effects_text effects)
opened_with effects each = record { opening = multibulk (multi ∷ []); effects = effects; opens = multi_opens; each = each; whole = refl }

-- behind an opening
taken_behind : (opening more done rest : List ℕ) (n : ℕ) → length opening ≤ n → take (n - length opening) more ≡ done ++ rest → take n (opening ++ more) ≡ opening ++ done ++ rest
taken_behind opening more done rest n within taken =
    ap (λ (k : ℕ). take k (opening ++ more)) (sym (add_back n (length opening) within)) ∙ take-append-add opening more (n - length opening) ∙ ap (λ (bs : List ℕ). opening ++ bs) taken ∙ sym (append_assoc opening done rest)

several_torn : (effects : List Effect) (count : ℕ) → AllByRecursion IsLoggable effects → 0 < count → count < length (multibulk (multi ∷ []) ++ effects_text effects ++ multibulk (exec ∷ [])) →
    IsTorn (take count (multibulk (multi ∷ []) ++ effects_text effects ++ multibulk (exec ∷ [])))
several_torn effects count each some short =
    let opening = multibulk (multi ∷ []) in
    let more = effects_text effects ++ multibulk (exec ∷ []) in
    let parts : opening ++ effects_text effects ++ multibulk (exec ∷ []) ≡ opening ++ more = append_assoc opening (effects_text effects) (multibulk (exec ∷ [])) in
    subst (λ (bs : List ℕ). IsTorn (take count bs)) (sym parts) (elim (cases_lt count (length opening)) [
      | inl here ↦ inl (subst IsUnfinishedArray (sym (take-append-le count opening more (omega arith))) (request_cut (multi ∷ []) count (name_request multi (lit≤ tt)) some here))
      | inr later ↦
          let behind = count - length opening in
          let cut = effects_cut effects (exec ∷ []) behind each (name_request exec (lit≤ tt)) (omega (arith, ap (λ (bs : List ℕ). length bs) parts, length-append opening more)) in
          inr record {
            front = opening ++ effects_text cut.effects;
            rest = cut.rest;
            opened = opened_with cut.effects cut.each;
            begun = cut.begun;
            whole = taken_behind opening more (effects_text cut.effects) cut.rest count later cut.whole;
          }
    ])

-- a front of a unit is a torn one
pub unit_torn : (effects : List Effect) (count : ℕ) → AllByRecursion IsLoggable effects → 0 < count → count < length (unit effects) → IsTorn (take count (unit effects))
unit_torn [] count each some short = absurd (omega arith)
unit_torn (effect ∷ []) count each some short = inl (request_cut effect.words count each.0.request some short)
unit_torn (effect ∷ other ∷ more) count each some short = several_torn (effect ∷ other ∷ more) count each some short

written_bytes : (effects : List Effect) → units_bytes (written effects) ≡ unit effects
written_bytes [] = refl
written_bytes (effect ∷ []) = append-nil ((effect_text effect ++ []) ++ []) ∙ append-nil (effect_text effect ++ []) ∙ append-nil (effect_text effect)
written_bytes (effect ∷ other ∷ more) = append-nil (multibulk (multi ∷ []) ++ effects_text (effect ∷ other ∷ more) ++ multibulk (exec ∷ []))

written_units : (effects : List Effect) → AllByRecursion IsLoggable effects → AllByRecursion IsUnit (written effects)
written_units [] each = tt
written_units (effect ∷ []) each = (record { each = each; form = inl record { opening = refl; one = refl; closing = refl } }, tt)
written_units (effect ∷ other ∷ more) each = (record { each = each; form = inr record { opening = multi_opens; closing = exec_closes } }, tt)

log_bytes : (events : List (List Effect)) → units_bytes (units_written events) ≡ log_text events
log_bytes [] = refl
log_bytes (effects ∷ events) =
    flat_map-append unit_bytes (written effects) (units_written events) ∙ ap (λ (bs : List ℕ). bs ++ units_bytes (units_written events)) (written_bytes effects) ∙ ap (λ (bs : List ℕ). unit effects ++ bs) (log_bytes events)

log_units : (events : List (List Effect)) → AreLoggable events → AllByRecursion IsUnit (units_written events)
log_units [] each = tt
log_units (effects ∷ events) each = AllByRecursion-append IsUnit (written effects) (units_written events) (written_units effects each.0) (log_units events each.1)

holds_written : (events : List (List Effect)) (rest : List ℕ) → AreLoggable events → ((rest ≡ []) ⊎ IsTorn rest) → HoldsUnits (log_text events ++ rest) (units_written events) (length (log_text events))
holds_written events rest each torn = record {
  each = log_units events each;
  rest = rest;
  whole = ap (λ (bs : List ℕ). bs ++ rest) (sym (log_bytes events));
  place = ap (λ (bs : List ℕ). length bs) (sym (log_bytes events));
  torn = torn;
}

pub whole_read : (events : List (List Effect)) → AreLoggable events → HoldsUnits (log_text events) (units_written events) (length (log_text events))
whole_read events each =
    subst (λ (bs : List ℕ). HoldsUnits bs (units_written events) (length (log_text events))) (append-nil (log_text events)) (holds_written events [] each (inl refl))

pub torn_read : (events : List (List Effect)) (last : List Effect) (count : ℕ) → AreLoggable events → AllByRecursion IsLoggable last → 0 < count → count < length (unit last) →
    HoldsUnits (log_text events ++ take count (unit last)) (units_written events) (length (log_text events))
torn_read events last count each each_last some short = holds_written events (take count (unit last)) each (inr (unit_torn last count each_last some short))
