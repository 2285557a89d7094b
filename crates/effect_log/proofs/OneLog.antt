-- One reading of a log.
use Rattle.std.proofs.Common.{◌≡◌, ◌⊎◌, ℕ, zero, suc, ◌+◌, ◌<◌, Bool, true, false, List, [], ◌∷◌, ◌++◌, length, refl, sym, ap, ◌∙◌, append_assoc, arith, inl, inr}
use Rattle.std.specs.List.{AllByRecursion}
use Rattle.std.proofs.lemmas.Bool.{false≢true}
use Rattle.std.proofs.lemmas.List.{length-append, append_cancel_left}
use Rattle.core_types.specs.declared.effect.Effect.{Effect}
use Rattle.effect_log.specs.Unit.{effect_text}
use Rattle.effect_log.specs.Log.{Unit, effects_text, unit_bytes, units_bytes, IsUnit, HoldsUnits, BreaksAt}
use Rattle.effect_log.specs.declared.reason.Reason.{Reason}
use Rattle.effect_log.proofs.Entries.{multibulk_some}
use Rattle.effect_log.proofs.Judging.{Judged, IsJudged, IsJudged-one, IsJudged-some}
use Rattle.effect_log.proofs.Judging.Judged.{Nothing, Whole, Torn, Broken}

abbrev is_whole : Judged → Bool
is_whole Nothing = false
is_whole (Whole unit) = true
is_whole Torn = false
is_whole (Broken why at) = false

abbrev is_broken : Judged → Bool
is_broken Nothing = false
is_broken (Whole unit) = false
is_broken Torn = false
is_broken (Broken why at) = true

-- no unit stands where something else does
no_unit : (bytes : List ℕ) (unit : Unit) (more : List ℕ) (judged : Judged) → IsUnit unit → is_whole judged ≡ false → IsJudged bytes judged → ¬ (bytes ≡ unit_bytes unit ++ more)
no_unit bytes unit more judged is_unit other is whole =
    false≢true (sym other ∙ ap is_whole (IsJudged-one bytes judged (Whole unit) is (is_unit, (more, whole))))

same_units : (us vs : List Unit) (r s : List ℕ) (a b : Judged) → AllByRecursion IsUnit us → AllByRecursion IsUnit vs → is_whole a ≡ false → is_whole b ≡ false → IsJudged r a → IsJudged s b → units_bytes us ++ r ≡ units_bytes vs ++ s →
    (us ≡ vs) × (r ≡ s) × (a ≡ b)
same_units [] [] r s a b each_u each_v other_a other_b of_a of_b whole = (refl, whole, IsJudged-one s a b (rw whole at of_a) of_b)
same_units [] (v ∷ vs) r s a b each_u each_v other_a other_b of_a of_b whole =
    absurd (no_unit r v (units_bytes vs ++ s) a each_v.0 other_a of_a (whole ∙ append_assoc (unit_bytes v) (units_bytes vs) s))
same_units (u ∷ us) [] r s a b each_u each_v other_a other_b of_a of_b whole =
    absurd (no_unit s u (units_bytes us ++ r) b each_u.0 other_b of_b (sym whole ∙ append_assoc (unit_bytes u) (units_bytes us) r))
same_units (u ∷ us) (v ∷ vs) r s a b each_u each_v other_a other_b of_a of_b whole =
    let parts : unit_bytes u ++ (units_bytes us ++ r) ≡ unit_bytes v ++ (units_bytes vs ++ s) = sym (append_assoc (unit_bytes u) (units_bytes us) r) ∙ whole ∙ append_assoc (unit_bytes v) (units_bytes vs) s in
    let firsts = IsJudged-one (unit_bytes u ++ (units_bytes us ++ r)) (Whole u) (Whole v) (each_u.0, (units_bytes us ++ r, refl)) (each_v.0, (units_bytes vs ++ s, parts)) in
    let same : u ≡ v = cc in
    let behind : units_bytes us ++ r ≡ units_bytes vs ++ s = append_cancel_left (unit_bytes v) (units_bytes us ++ r) (units_bytes vs ++ s) (ap (λ (x : Unit). unit_bytes x ++ (units_bytes us ++ r)) (sym same) ∙ parts) in
    let others = same_units us vs r s a b each_u.1 each_v.1 other_a other_b of_a of_b behind in
    (ap (λ (x : Unit). x ∷ us) same ∙ ap (λ (xs : List Unit). v ∷ xs) others.0, others.1, others.2)

-- what ends a log without a fault
record IsEnd (bytes : List ℕ) : Type 0 where
  judged : Judged
  is : IsJudged bytes judged
  no_unit : is_whole judged ≡ false
  no_fault : is_broken judged ≡ false

holds_end : (bytes : List ℕ) (units : List Unit) (kept : ℕ) → (holds : HoldsUnits bytes units kept) → IsEnd holds.rest
holds_end bytes units kept holds = elim holds.torn [
  | inl none ↦ record { judged = Nothing; is = none; no_unit = refl; no_fault = refl }
  | inr torn ↦ record { judged = Torn; is = torn; no_unit = refl; no_fault = refl }
]

pub holds_one : (bytes : List ℕ) (units others : List Unit) (kept other : ℕ) → HoldsUnits bytes units kept → HoldsUnits bytes others other → (units ≡ others) × (kept ≡ other)
holds_one bytes units others kept other first second =
    let a = holds_end bytes units kept first in
    let b = holds_end bytes others other second in
    let same = same_units units others first.rest second.rest a.judged b.judged first.each second.each a.no_unit b.no_unit a.is b.is (sym first.whole ∙ second.whole) in
    (same.0, first.place ∙ ap (λ (us : List Unit). length (units_bytes us)) same.0 ∙ sym second.place)

pub breaks_one : (bytes : List ℕ) (units others : List Unit) (why other : Reason) (at place : ℕ) → BreaksAt bytes units why at → BreaksAt bytes others other place → (units ≡ others) × (why ≡ other) × (at ≡ place)
breaks_one bytes units others why other at place first second =
    let same = same_units units others first.rest second.rest (Broken why first.place) (Broken other second.place) first.each second.each refl refl first.fault second.fault (sym first.whole ∙ second.whole) in
    let faults = same.2 in
    let there : first.place ≡ second.place = cc in
    let before : length (units_bytes units) ≡ length (units_bytes others) = ap (λ (us : List Unit). length (units_bytes us)) same.0 in
    let reason : why ≡ other = cc in
    (same.0, reason, omega (arith, first.place_is, second.place_is, there, before))

pub holds_unbroken : (bytes : List ℕ) (units others : List Unit) (kept at : ℕ) (why : Reason) → HoldsUnits bytes units kept → ¬ BreaksAt bytes others why at
holds_unbroken bytes units others kept at why first second =
    let a = holds_end bytes units kept first in
    let same = same_units units others first.rest second.rest a.judged (Broken why second.place) first.each second.each a.no_unit refl a.is second.fault (sym first.whole ∙ second.whole) in
    false≢true (sym a.no_fault ∙ ap is_broken same.2)

abbrev pub IsReadable : List ℕ → Type 0
IsReadable bytes = ((units : List Unit) × (kept : ℕ) × HoldsUnits bytes units kept) ⊎ ((units : List Unit) × (why : Reason) × (at : ℕ) × BreaksAt bytes units why at)

effects_some : (effects : List Effect) → length effects ≡ 1 → 0 < length (effects_text effects)
effects_some [] one = absurd (omega arith)
effects_some (effect ∷ more) one = omega (arith, length-append (effect_text effect) (effects_text more), multibulk_some effect.words)

unit_some : (unit : Unit) → IsUnit unit → 0 < length (unit_bytes unit)
unit_some unit is_unit =
    let parts = length-append (unit.opening ++ effects_text unit.effects) unit.closing in
    let fronts = length-append unit.opening (effects_text unit.effects) in
    elim is_unit.form [
      | inl lone ↦ omega (arith, effects_some unit.effects lone.one, parts, fronts)
      | inr enclosed ↦ omega (arith, ap (λ (bs : List ℕ). length bs) enclosed.opening.whole, multibulk_some enclosed.opening.words, parts, fronts)
    ]

-- one unit more in front
readable_more : (bytes : List ℕ) (unit : Unit) (rest : List ℕ) → IsUnit unit → bytes ≡ unit_bytes unit ++ rest → IsReadable rest → IsReadable bytes
readable_more bytes unit rest is_unit whole (inl (units, kept, holds)) =
    inl (
      unit ∷ units,
      length (unit_bytes unit) + kept,
      record {
        each = (is_unit, holds.each);
        rest = holds.rest;
        whole = whole ∙ ap (λ (bs : List ℕ). unit_bytes unit ++ bs) holds.whole ∙ sym (append_assoc (unit_bytes unit) (units_bytes units) holds.rest);
        place = omega (arith, holds.place, length-append (unit_bytes unit) (units_bytes units));
        torn = holds.torn;
      },
    )
readable_more bytes unit rest is_unit whole (inr (units, why, at, breaks)) =
    inr (
      unit ∷ units,
      why,
      length (unit_bytes unit) + at,
      record {
        each = (is_unit, breaks.each);
        rest = breaks.rest;
        place = breaks.place;
        whole = whole ∙ ap (λ (bs : List ℕ). unit_bytes unit ++ bs) breaks.whole ∙ sym (append_assoc (unit_bytes unit) (units_bytes units) breaks.rest);
        fault = breaks.fault;
        place_is = omega (arith, breaks.place_is, length-append (unit_bytes unit) (units_bytes units));
      },
    )

judged_readable : (bytes : List ℕ) (judged : Judged) → IsJudged bytes judged → ((rest : List ℕ) → length rest < length bytes → IsReadable rest) → IsReadable bytes
judged_readable bytes Nothing none go_on = inl ([], 0, record { each = tt; rest = bytes; whole = refl; place = refl; torn = inl none })
judged_readable bytes (Whole unit) (is_unit, (rest, whole)) go_on =
    readable_more bytes unit rest is_unit whole (go_on rest (omega (arith, unit_some unit is_unit, ap (λ (bs : List ℕ). length bs) whole, length-append (unit_bytes unit) rest)))
judged_readable bytes Torn torn go_on = inl ([], 0, record { each = tt; rest = bytes; whole = refl; place = refl; torn = inr torn })
judged_readable bytes (Broken why at) fault go_on = inr ([], why, at, record { each = tt; rest = bytes; place = at; whole = refl; fault = fault; place_is = omega arith })

-- with more steps than there are bytes
readable_within : (steps : ℕ) (bytes : List ℕ) → length bytes < steps → IsReadable bytes
readable_within zero bytes few = absurd (omega arith)
readable_within (suc n) bytes few =
    let found = IsJudged-some bytes in
    judged_readable bytes found.0 found.1 (λ rest shorter. readable_within n rest (omega arith))

pub readable : (bytes : List ℕ) → IsReadable bytes
readable bytes = readable_within (suc (length bytes)) bytes (omega arith)
