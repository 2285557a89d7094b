-- A log that goes on.
use Rattle.std.proofs.Common.{◌≡◌, ℕ, ◌+◌, ◌<◌, List, [], ◌∷◌, ◌++◌, length, take, refl, sym, ap, subst, ◌∙◌, append_assoc, append-nil, arith, Ok, inl, inr}
use Rattle.std.specs.List.{AllByRecursion}
use Rattle.std.proofs.lemmas.List.{length-append, take_at, nil_from_length}
use Rattle.std.proofs.lemmas.List.Concat.{flat_map-append}
use Rattle.core_types.specs.Keys.{Keys, no_keys}
use Rattle.core_types.specs.declared.effect.Effect.{Effect}
use Rattle.effect_log.specs.declared.reason.Reason.{Reason}
use Rattle.effect_log.specs.Unit.{unit, IsLoggable}
use Rattle.effect_log.specs.Log.{Unit, unit_bytes, units_bytes, IsUnit, HoldsUnits, BreaksAt}
use Rattle.effect_log.specs.Written.{AreLoggable, effects_in, log_text, written, units_written}
use Rattle.effect_log.specs.Replay.{Meaning, replayed, effects_of, Holds}
use Rattle.effect_log.proofs.OpenedUnits.{AllByRecursion-append}
use Rattle.effect_log.proofs.ReadBack.{whole_read, unit_torn}
use Rattle.effect_log.proofs.Replays.{replayed-on}

-- units that reach the end of the bytes are all of them
all_units : (bytes : List ℕ) (us : List Unit) → HoldsUnits bytes us (length bytes) → bytes ≡ units_bytes us
all_units bytes us holds =
    let none : holds.rest ≡ [] = nil_from_length holds.rest (omega (arith, holds.place, ap (λ (bs : List ℕ). length bs) holds.whole, length-append (units_bytes us) holds.rest)) in
    holds.whole ∙ ap (λ (bs : List ℕ). units_bytes us ++ bs) none ∙ append-nil (units_bytes us)

-- units behind units that reach the end
pub HoldsUnits-join : (a b : List ℕ) (us vs : List Unit) (kept : ℕ) → HoldsUnits a us (length a) → HoldsUnits b vs kept → HoldsUnits (a ++ b) (us ++ vs) (length a + kept)
HoldsUnits-join a b us vs kept first second =
    let joined : units_bytes (us ++ vs) ≡ units_bytes us ++ units_bytes vs = flat_map-append unit_bytes us vs in
    record {
      each = AllByRecursion-append IsUnit us vs first.each second.each;
      rest = second.rest;
      whole = ap (λ (bs : List ℕ). bs ++ b) (all_units a us first) ∙ ap (λ (bs : List ℕ). units_bytes us ++ bs) second.whole ∙ sym (append_assoc (units_bytes us) (units_bytes vs) second.rest) ∙ ap (λ (bs : List ℕ). bs ++ second.rest) (sym joined);
      place = omega (arith, first.place, second.place, ap (λ (bs : List ℕ). length bs) joined, length-append (units_bytes us) (units_bytes vs));
      torn = second.torn;
    }

-- the same, where what follows has a fault of form
pub BreaksAt-join : (front more : List ℕ) (units others : List Unit) (why : Reason) (at : ℕ) → HoldsUnits front units (length front) → BreaksAt more others why at → BreaksAt (front ++ more) (units ++ others) why (length front + at)
BreaksAt-join front more units others why at holds breaks =
    let joined : units_bytes (units ++ others) ≡ units_bytes units ++ units_bytes others = flat_map-append unit_bytes units others in
    record {
      each = AllByRecursion-append IsUnit units others holds.each breaks.each;
      rest = breaks.rest;
      place = breaks.place;
      whole = ap (λ (bs : List ℕ). bs ++ more) (all_units front units holds) ∙ ap (λ (bs : List ℕ). units_bytes units ++ bs) breaks.whole ∙ sym (append_assoc (units_bytes units) (units_bytes others) breaks.rest) ∙ ap (λ (bs : List ℕ). bs ++ breaks.rest) (sym joined);
      fault = breaks.fault;
      place_is = omega (arith, holds.place, breaks.place_is, ap (λ (bs : List ℕ). length bs) joined, length-append (units_bytes units) (units_bytes others));
    }

HoldsUnits-kept : (bytes : List ℕ) (us : List Unit) (kept : ℕ) → HoldsUnits bytes us kept → HoldsUnits (take kept bytes) us (length (take kept bytes))
HoldsUnits-kept bytes us kept holds =
    let front : take kept bytes ≡ units_bytes us = ap (λ (bs : List ℕ). take kept bs) holds.whole ∙ take_at (units_bytes us) holds.rest kept (sym holds.place) in
    record {
      each = holds.each;
      rest = [];
      whole = front ∙ sym (append-nil (units_bytes us));
      place = ap (λ (bs : List ℕ). length bs) front;
      torn = inl refl;
    }

-- without its torn unit a log stands for the same keys
pub Holds-kept : (replay : Meaning) (bytes : List ℕ) (keys : Keys) (kept : ℕ) → Holds replay bytes keys kept → Holds replay (take kept bytes) keys (length (take kept bytes))
Holds-kept replay bytes keys kept log = record { units = log.units; holds = HoldsUnits-kept bytes log.units kept log.holds; makes = log.makes }

written_effects : (effects : List Effect) → effects_of (written effects) ≡ effects
written_effects [] = refl
written_effects (effect ∷ []) = append-nil (effect ∷ [])
written_effects (effect ∷ other ∷ more) = append-nil (effect ∷ other ∷ more)

-- events are written as units of their effects
effects_written : (events : List (List Effect)) → effects_of (units_written events) ≡ effects_in events
effects_written [] = refl
effects_written (effects ∷ events) =
    flat_map-append (λ (u : Unit). u.effects) (written effects) (units_written events) ∙ ap (λ (es : List Effect). es ++ effects_of (units_written events)) (written_effects effects) ∙ ap (λ (es : List Effect). effects ++ es) (effects_written events)

-- a log goes on with the units of more events
pub Holds-more : (replay : Meaning) (bytes : List ℕ) (keys then : Keys) (events : List (List Effect)) → Holds replay bytes keys (length bytes) → AreLoggable events → replayed replay keys (effects_in events) ≡ Ok then →
    Holds replay (bytes ++ log_text events) then (length (bytes ++ log_text events))
Holds-more replay bytes keys then events log each made =
    let others = units_written events in
    let effects : effects_of (log.units ++ others) ≡ effects_of log.units ++ effects_in events = flat_map-append (λ (u : Unit). u.effects) log.units others ∙ ap (λ (es : List Effect). effects_of log.units ++ es) (effects_written events) in
    record {
      units = log.units ++ others;
      holds = subst (λ (n : ℕ). HoldsUnits (bytes ++ log_text events) (log.units ++ others) n) (sym (length-append bytes (log_text events))) (HoldsUnits-join bytes (log_text events) log.units others (length (log_text events)) log.holds (whole_read events each));
      makes = ap (λ (es : List Effect). replayed replay no_keys es) effects ∙ replayed-on replay no_keys keys (effects_of log.units) (effects_in events) log.makes ∙ made;
    }

-- a last unit of which a part is missing changes nothing
pub Holds-torn : (replay : Meaning) (bytes : List ℕ) (keys : Keys) (last : List Effect) (count : ℕ) → Holds replay bytes keys (length bytes) → AllByRecursion IsLoggable last → 0 < count → count < length (unit last) →
    Holds replay (bytes ++ take count (unit last)) keys (length bytes)
Holds-torn replay bytes keys last count log each some short =
    let part = take count (unit last) in
    record {
      units = log.units;
      holds = record {
        each = log.holds.each;
        rest = part;
        whole = ap (λ (bs : List ℕ). bs ++ part) (all_units bytes log.units log.holds);
        place = log.holds.place;
        torn = inr (unit_torn last count each some short);
      };
      makes = log.makes;
    }
