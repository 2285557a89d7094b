-- A log stands for keys or is refused.
use Rattle.std.proofs.Common.{◌≡◌, ◌⊎◌, ℕ, ◌+◌, List, [], ◌∷◌, ◌++◌, length, refl, sym, ap, subst, ◌∙◌, append_assoc, append-nil, Ok, Err, inl, inr}
use Rattle.std.specs.List.{AllByRecursion}
use Rattle.std.proofs.lemmas.List.Concat.{flat_map-append}
use Rattle.core_types.specs.Keys.{Keys, no_keys}
use Rattle.effect_log.specs.declared.reason.Reason.{Reason}
use Rattle.effect_log.specs.Refusal.{Refusal, reason_of}
use Rattle.effect_log.specs.Log.{Unit, unit_bytes, units_bytes, IsUnit, HoldsUnits, BreaksAt}
use Rattle.effect_log.specs.Replay.{Meaning, replayed, effects_of, Holds, RefusesEffect, IsRefused}
use Rattle.effect_log.proofs.OneLog.{IsReadable, readable, holds_one, breaks_one, holds_unbroken}
use Rattle.effect_log.proofs.Replays.{units_bytes-push, each-push}
use Rattle.effect_log.proofs.GoesOn.{HoldsUnits-join, BreaksAt-join}
use Rattle.effect_log.proofs.Stops.{StopsIn, UnitsMakeOrStop, units_make_or_stop, stops_refuse, stops_one}

-- the bytes hold these units, and what ends them
abbrev pub HasUnits : List ℕ → List Unit → Type 0
HasUnits bytes units = ((kept : ℕ) × HoldsUnits bytes units kept) ⊎ ((why : Reason) × (at : ℕ) × BreaksAt bytes units why at)

pub has_one : (bytes : List ℕ) (us vs : List Unit) → HasUnits bytes us → HasUnits bytes vs → us ≡ vs
has_one bytes us vs (inl (kept, holds)) (inl (other, others)) = (holds_one bytes us vs kept other holds others).0
has_one bytes us vs (inl (kept, holds)) (inr (why, at, breaks)) = absurd (holds_unbroken bytes us vs kept at why holds breaks)
has_one bytes us vs (inr (why, at, breaks)) (inl (kept, holds)) = absurd (holds_unbroken bytes vs us kept at why holds breaks)
has_one bytes us vs (inr (why, at, breaks)) (inr (other, place, others)) = (breaks_one bytes us vs why other at place breaks others).0

units_held : (us : List Unit) → AllByRecursion IsUnit us → HoldsUnits (units_bytes us) us (length (units_bytes us))
units_held us each = record { each = each; rest = []; whole = sym (append-nil (units_bytes us)); place = refl; torn = inl refl }

-- whatever follows units, it is read on
pub has_behind : (us : List Unit) (rest : List ℕ) → AllByRecursion IsUnit us → IsReadable rest → (more : List Unit) × HasUnits (units_bytes us ++ rest) (us ++ more)
has_behind us rest each (inl (more, kept, holds)) =
    (more, inl (length (units_bytes us) + kept, HoldsUnits-join (units_bytes us) rest us more kept (units_held us each) holds))
has_behind us rest each (inr (more, why, at, breaks)) =
    (more, inr (why, length (units_bytes us) + at, BreaksAt-join (units_bytes us) rest us more why at (units_held us each) breaks))

-- the units of a log, one of whose effects is refused
record IsStopped (replay : Meaning) (bytes : List ℕ) (why : Refusal) (at : ℕ) : Type 0 where
  all : List Unit
  has : HasUnits bytes all
  stops : StopsIn replay no_keys all why at

stopped : (replay : Meaning) (bytes : List ℕ) (why : Reason) (at : ℕ) → (r : RefusesEffect replay bytes why at) → IsStopped replay bytes r.refused.refusal at
stopped replay bytes why at r =
    let front = r.units ++ r.next ∷ [] in
    let found = has_behind front r.rest (each-push r.units r.next r.each r.is_unit) (readable r.rest) in
    let joined : units_bytes front ++ r.rest ≡ bytes = ap (λ (bs : List ℕ). bs ++ r.rest) (units_bytes-push r.units r.next) ∙ sym r.whole in
    record {
      all = front ++ found.0;
      has = subst (λ (bs : List ℕ). HasUnits bs (front ++ found.0)) joined found.1;
      stops = record {
        units = r.units;
        next = r.next;
        more = found.0;
        count = r.count;
        effect = r.effect;
        then = r.keys;
        whole = append_assoc r.units (r.next ∷ []) found.0;
        there = r.there;
        before = r.before;
        refused = r.refused.nothing;
        place = r.place;
      };
    }

AllByRecursion-front : (us vs : List Unit) → AllByRecursion IsUnit (us ++ vs) → AllByRecursion IsUnit us × AllByRecursion IsUnit vs
AllByRecursion-front [] vs each = (tt, each)
AllByRecursion-front (u ∷ us) vs each =
    let parts = AllByRecursion-front us vs each.1 in
    ((each.0, parts.0), parts.1)

refuses : (replay : Meaning) (bytes : List ℕ) (all : List Unit) (rest : List ℕ) (why : Refusal) (at : ℕ) → AllByRecursion IsUnit all → bytes ≡ units_bytes all ++ rest → StopsIn replay no_keys all why at → RefusesEffect replay bytes (reason_of why) at
refuses replay bytes all rest why at each whole stop =
    let parts = AllByRecursion-front stop.units (stop.next ∷ stop.more) (subst (λ (us : List Unit). AllByRecursion IsUnit us) stop.whole each) in
    let front = units_bytes stop.units in
    let next = unit_bytes stop.next in
    let more = units_bytes stop.more in
    let split : units_bytes all ≡ front ++ (next ++ more) = ap units_bytes stop.whole ∙ flat_map-append unit_bytes stop.units (stop.next ∷ stop.more) in
    record {
      units = stop.units;
      next = stop.next;
      rest = more ++ rest;
      count = stop.count;
      effect = stop.effect;
      keys = stop.then;
      each = parts.0;
      is_unit = parts.1.0;
      whole = whole ∙ ap (λ (bs : List ℕ). bs ++ rest) (split ∙ sym (append_assoc front next more)) ∙ append_assoc (front ++ next) more rest;
      there = stop.there;
      before = stop.before;
      refused = record { refusal = why; nothing = stop.refused; reason = refl };
      place = stop.place;
    }

abbrev HasOutcome : Meaning → List ℕ → Type 0
HasOutcome replay bytes = ((keys : Keys) × (kept : ℕ) × Holds replay bytes keys kept) ⊎ ((why : Reason) × (at : ℕ) × IsRefused replay bytes why at)

held_outcome : (replay : Meaning) (bytes : List ℕ) (units : List Unit) (kept : ℕ) → HoldsUnits bytes units kept → UnitsMakeOrStop replay no_keys units → HasOutcome replay bytes
held_outcome replay bytes units kept holds (inl (keys, makes)) = inl (keys, kept, record { units = units; holds = holds; makes = makes })
held_outcome replay bytes units kept holds (inr (why, at, stop)) = inr (reason_of why, at, inl (refuses replay bytes units holds.rest why at holds.each holds.whole stop))

broken_outcome : (replay : Meaning) (bytes : List ℕ) (units : List Unit) (why : Reason) (at : ℕ) → BreaksAt bytes units why at → UnitsMakeOrStop replay no_keys units → HasOutcome replay bytes
broken_outcome replay bytes units why at breaks (inl (keys, makes)) = inr (why, at, inr record { units = units; keys = keys; breaks = breaks; before = makes })
broken_outcome replay bytes units why at breaks (inr (other, place, stop)) = inr (reason_of other, place, inl (refuses replay bytes units breaks.rest other place breaks.each breaks.whole stop))

read_outcome : (replay : Meaning) (bytes : List ℕ) → IsReadable bytes → HasOutcome replay bytes
read_outcome replay bytes (inl (units, kept, holds)) = held_outcome replay bytes units kept holds (units_make_or_stop replay no_keys units)
read_outcome replay bytes (inr (units, why, at, breaks)) = broken_outcome replay bytes units why at breaks (units_make_or_stop replay no_keys units)

pub outcome : (replay : Meaning) (bytes : List ℕ) → ((keys : Keys) × (kept : ℕ) × Holds replay bytes keys kept) ⊎ ((why : Reason) × (at : ℕ) × IsRefused replay bytes why at)
outcome replay bytes = read_outcome replay bytes (readable bytes)

pub Holds-one : (replay : Meaning) (bytes : List ℕ) (keys others : Keys) (kept other : ℕ) → Holds replay bytes keys kept → Holds replay bytes others other → (keys ≡ others) × (kept ≡ other)
Holds-one replay bytes keys others kept other a b =
    let same = holds_one bytes a.units b.units kept other a.holds b.holds in
    let made : Ok keys ≡ Ok others = sym a.makes ∙ ap (λ (us : List Unit). replayed replay no_keys (effects_of us)) same.0 ∙ b.makes in
    let is : keys ≡ others = cc in
    (is, same.1)

-- units whose effects make keys have none that is refused
makes_all : (replay : Meaning) (bytes : List ℕ) (units : List Unit) (keys : Keys) (why : Reason) (at : ℕ) → HasUnits bytes units → replayed replay no_keys (effects_of units) ≡ Ok keys → ¬ RefusesEffect replay bytes why at
makes_all replay bytes units keys why at has makes refused =
    let stop = stopped replay bytes why at refused in
    let same = has_one bytes units stop.all has stop.has in
    let both : Ok keys ≡ Err refused.refused.refusal = sym makes ∙ ap (λ (us : List Unit). replayed replay no_keys (effects_of us)) same ∙ stops_refuse replay no_keys stop.all refused.refused.refusal at stop.stops in
    absurd cc

effect_one : (replay : Meaning) (bytes : List ℕ) (why other : Reason) (at place : ℕ) → RefusesEffect replay bytes why at → RefusesEffect replay bytes other place → (why ≡ other) × (at ≡ place)
effect_one replay bytes why other at place first second =
    let a = stopped replay bytes why at first in
    let b = stopped replay bytes other place second in
    let same = has_one bytes b.all a.all b.has a.has in
    let one = first.refused.refusal in
    let two = second.refused.refusal in
    let both = stops_one replay no_keys a.all one two at place a.stops (subst (λ (us : List Unit). StopsIn replay no_keys us two place) same b.stops) in
    (first.refused.reason ∙ ap reason_of both.0 ∙ sym second.refused.reason, both.1)

pub IsRefused-one : (replay : Meaning) (bytes : List ℕ) (why other : Reason) (at place : ℕ) → IsRefused replay bytes why at → IsRefused replay bytes other place → (why ≡ other) × (at ≡ place)
IsRefused-one replay bytes why other at place (inl a) (inl b) = effect_one replay bytes why other at place a b
IsRefused-one replay bytes why other at place (inl a) (inr b) = absurd (makes_all replay bytes b.units b.keys why at (inr (other, place, b.breaks)) b.before a)
IsRefused-one replay bytes why other at place (inr a) (inl b) = absurd (makes_all replay bytes a.units a.keys other place (inr (why, at, a.breaks)) a.before b)
IsRefused-one replay bytes why other at place (inr a) (inr b) =
    let same = breaks_one bytes a.units b.units why other at place a.breaks b.breaks in
    (same.1, same.2)

pub Holds-unrefused : (replay : Meaning) (bytes : List ℕ) (keys : Keys) (kept at : ℕ) (why : Reason) → Holds replay bytes keys kept → ¬ IsRefused replay bytes why at
Holds-unrefused replay bytes keys kept at why log (inl refused) = makes_all replay bytes log.units keys why at (inl (kept, log.holds)) log.makes refused
Holds-unrefused replay bytes keys kept at why log (inr refused) = holds_unbroken bytes log.units refused.units kept at why log.holds refused.breaks
