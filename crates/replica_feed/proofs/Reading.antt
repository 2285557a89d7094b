-- What the text of a Unit is found to be. Serves the clauses of read_text and read_rest.
use Rattle.std.proofs.Common.{◌≡◌, ◌≢◌, ℕ, ◌+◌, ◌-◌, ◌<◌, Bool, true, false, List, [], ◌∷◌, ◌++◌, length, drop, refl, sym, ap, ◌∙◌, append_assoc, append-nil, arith, inl, inr}
use Rattle.std.specs.List.{AllByRecursion}
use Rattle.std.proofs.lemmas.Bool.{false≢true}
use Rattle.std.proofs.lemmas.List.{length-append, drop_all}
use Rattle.core_types.specs.declared.effect.Effect.{Effect}
use Rattle.effect_log.specs.Log.{Unit, unit_bytes, units_bytes, IsUnit, IsTorn, HoldsUnits}
use Rattle.effect_log.specs.Reading.{Log, ahead, TakesUnit, IsFaulty}
use Rattle.effect_log.specs.declared.reason.Reason.{Reason}
use Rattle.effect_log.proofs.Judging.{IsJudged-one}
use Rattle.effect_log.proofs.Judging.Judged.{Nothing, Torn, Whole}
use Rattle.effect_log.proofs.OneLog.{holds_one, holds_unbroken}
use Rattle.replica_feed.specs.Words.{IsUnitText}
use Rattle.replica_feed.specs.inner.Texts.{Breaks, IsOther, IsRead}

all-append : (us vs : List Unit) → AllByRecursion IsUnit us → AllByRecursion IsUnit vs → AllByRecursion IsUnit (us ++ vs)
all-append [] vs of_us of_vs = of_vs
all-append (u ∷ us) vs of_us of_vs = (of_us.0, all-append us vs of_us.1 of_vs)

bytes-append : (us : List Unit) (u : Unit) → units_bytes (us ++ u ∷ []) ≡ units_bytes us ++ unit_bytes u
bytes-append [] u = append-nil (unit_bytes u)
bytes-append (v ∷ us) u = ap (λ (b : List ℕ). unit_bytes v ++ b) (bytes-append us u) ∙ sym (append_assoc (unit_bytes v) (units_bytes us) (unit_bytes u))

-- nothing was read yet: what stands ahead is all
abbrev pub Stood : Log → List Unit → Type 0
Stood log units = (log.bytes ≡ units_bytes units ++ ahead log) × (log.place ≡ length (units_bytes units))

-- one more unit was read
stands_on : (old new : Log) (units : List Unit) (effects : List Effect) → Stood old units → (takes : TakesUnit old new effects) → Stood new (units ++ takes.unit ∷ [])
stands_on old new units effects stood takes =
    let both = bytes-append units takes.unit in (
      takes.bytes ∙ stood.0 ∙ ap (λ (b : List ℕ). units_bytes units ++ b) takes.taken
          ∙ sym (append_assoc (units_bytes units) (unit_bytes takes.unit) (ahead new)) ∙ ap (λ (b : List ℕ). b ++ ahead new) (sym both),
      omega (arith, takes.place, stood.1, ap (λ (b : List ℕ). length b) both, length-append (units_bytes units) (unit_bytes takes.unit)),
    )

pub first_read : (old new : Log) (effects : List Effect) → old.place ≡ 0 → TakesUnit old new effects → IsRead new effects true
first_read old new effects begin takes =
    let stood : Stood old [] = (ap (λ (n : ℕ). drop n old.bytes) (sym begin), begin) in
    let on = stands_on old new [] effects stood takes in
    record {
      units = takes.unit ∷ [];
      each = (takes.is_unit, tt);
      whole = on.0;
      place = on.1;
      one = λ alone. (refl, takes.effects_are ∙ sym (append-nil takes.unit.effects));
      more = λ apart. absurd (false≢true (sym apart));
    }

pub another_read : (old new : Log) (first effects : List Effect) (alone : Bool) → IsRead old first alone → TakesUnit old new effects → IsRead new first false
another_read old new first effects alone read takes =
    let on = stands_on old new read.units effects (read.whole, read.place) takes in
    record {
      units = read.units ++ takes.unit ∷ [];
      each = all-append read.units (takes.unit ∷ []) read.each (takes.is_unit, tt);
      whole = on.0;
      place = on.1;
      one = λ apart. absurd (false≢true apart);
      more = λ apart. some alone (λ is. (read.one is).0) read.more;
    }
  where
    some : (alone : Bool) → (alone ≡ true → length read.units ≡ 1) → (alone ≡ false → 1 < length read.units) → 1 < length (read.units ++ takes.unit ∷ [])
    some true one more = omega (arith, one refl, length-append read.units (takes.unit ∷ []))
    some false one more = omega (arith, more refl, length-append read.units (takes.unit ∷ []))

-- the end of the text: whole units

holds_all : (log : Log) (first : List Effect) (alone : Bool) → (read : IsRead log first alone) → log.place ≡ length log.bytes → HoldsUnits log.bytes read.units (length log.bytes)
holds_all log first alone read end =
    let none : ahead log ≡ [] = drop_all log.place log.bytes (omega (arith, end)) in
    record {
      each = read.each;
      rest = [];
      whole = read.whole ∙ ap (λ (b : List ℕ). units_bytes read.units ++ b) none;
      place = sym end ∙ read.place;
      torn = inl refl;
    }

pub one_unit : (log : Log) (first : List Effect) → IsRead log first true → log.place ≡ length log.bytes → IsUnitText log.bytes first
one_unit log first read end = record {
  units = read.units;
  holds = holds_all log first true read end;
  few = omega (arith, (read.one refl).0);
  effects_are = (read.one refl).1;
}

-- where units were found, and not one alone up to the end, the text is neither
held_other : (text : List ℕ) (units : List Unit) (kept : ℕ) → HoldsUnits text units kept → (kept ≡ length text → 1 < length units) → IsOther text
held_other text units kept holds several = record {
  no_unit = λ effects is.
      let same = holds_one text is.units units (length text) kept is.holds holds in
      omega (arith, is.few, several (sym same.1), ap (λ (us : List Unit). length us) same.0);
  no_fault = λ why is. holds_unbroken text units is.units kept is.at why holds is.breaks;
}

pub several_units : (log : Log) (first : List Effect) → IsRead log first false → log.place ≡ length log.bytes → IsOther log.bytes
several_units log first read end = held_other log.bytes read.units (length log.bytes) (holds_all log first false read end) (λ whole. read.more refl)

torn_some : (bytes : List ℕ) → IsTorn bytes → bytes ≢ []
torn_some bytes torn none =
    let same : Nothing ≡ Torn = IsJudged-one bytes Nothing Torn none torn in cc

pub torn_after : (log : Log) (units : List Unit) → AllByRecursion IsUnit units → Stood log units → IsTorn (ahead log) → IsOther log.bytes
torn_after log units each stood torn = held_other log.bytes units log.place (record {
  each = each;
  rest = ahead log;
  whole = stood.0;
  place = stood.1;
  torn = inr torn;
}) (λ whole. absurd (torn_some (ahead log) torn (drop_all log.place log.bytes (omega (arith, whole)))))

pub breaks_after : (log : Log) (units : List Unit) (offset : ℕ) (why : Reason) → AllByRecursion IsUnit units → Stood log units → IsFaulty log offset why → Breaks log.bytes why
breaks_after log units offset why each stood faulty = record {
  units = units;
  at = log.place + faulty.place;
  breaks = record {
    each = each;
    rest = ahead log;
    place = faulty.place;
    whole = stood.0;
    fault = faulty.fault;
    place_is = omega (arith, stood.1);
  };
}

pub stood_first : (log : Log) → log.place ≡ 0 → Stood log []
stood_first log begin = (ap (λ (n : ℕ). drop n log.bytes) (sym begin), begin)

pub no_text : (log : Log) → log.place ≡ 0 → log.place ≡ length log.bytes → IsUnitText log.bytes []
no_text log begin end = record {
  units = [];
  holds = record { each = tt; rest = []; whole = nothing log.bytes (omega (arith, begin, end)); place = sym end ∙ begin; torn = inl refl };
  few = omega arith;
  effects_are = refl;
}
  where
    nothing : (bytes : List ℕ) → length bytes ≡ 0 → bytes ≡ []
    nothing [] e = refl
    nothing (b ∷ bytes) e = absurd (omega (arith, e))

unit_some : (unit : Unit) → IsUnit unit → 0 < length (unit_bytes unit)
unit_some unit is_unit = by (unit_bytes unit) refl
  where
    by : (bytes : List ℕ) → unit_bytes unit ≡ bytes → 0 < length (unit_bytes unit)
    by [] none = let same : Nothing ≡ Whole unit = IsJudged-one [] Nothing (Whole unit) refl (is_unit, ([], sym none ∙ sym (append-nil (unit_bytes unit)))) in absurd cc
    by (b ∷ bytes) some = omega (arith, ap (λ (x : List ℕ). length x) some)

-- and less is left
pub less_left : (old new : Log) (first effects : List Effect) (alone : Bool) → IsRead old first alone → TakesUnit old new effects → length new.bytes - new.place < length old.bytes - old.place
less_left old new first effects alone read takes =
    omega (
      arith,
      takes.place,
      read.place,
      unit_some takes.unit takes.is_unit,
      ap (λ (b : List ℕ). length b) takes.bytes,
      ap (λ (b : List ℕ). length b) read.whole,
      length-append (units_bytes read.units) (ahead old),
      ap (λ (b : List ℕ). length b) takes.taken,
      length-append (unit_bytes takes.unit) (ahead new),
    )
