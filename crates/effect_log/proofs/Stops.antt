-- The first effect that makes nothing of the keys.
use Rattle.std.proofs.Common.{◌≡◌, ◌⊎◌, ℕ, zero, suc, ◌+◌, ◌<◌, List, [], ◌∷◌, ◌++◌, length, take, drop, refl, sym, ap, ◌∙◌, append_assoc, arith, Result, Ok, Err, Some, inl, inr}
use Rattle.std.specs.List.{slice_get}
use Rattle.std.proofs.lemmas.List.{length-append, length-take-le}
use Rattle.std.proofs.lemmas.List.Concat.{flat_map-append}
use Rattle.std.proofs.lemmas.Option.{none-some, same_Some, slice_get_within}
use Rattle.core_types.specs.Keys.{Keys}
use Rattle.core_types.specs.declared.effect.Effect.{Effect}
use Rattle.effect_log.specs.Refusal.{Refusal}
use Rattle.effect_log.specs.Log.{Unit, unit_bytes, units_bytes, effect_start}
use Rattle.effect_log.specs.Replay.{Meaning, and_then, replayed, effects_of}
use Rattle.effect_log.proofs.Replays.{replayed-on}

-- behind effects that make some keys, this one of them makes nothing of these
record StopsAt (replay : Meaning) (keys : Keys) (effects : List Effect) (count : ℕ) (why : Refusal) : Type 0 where
  effect : Effect
  then : Keys
  there : slice_get effects count ≡ Some effect
  before : replayed replay keys (take count effects) ≡ Ok then
  refused : replay then effect ≡ Err why

abbrev MakesOrStops : Meaning → Keys → List Effect → Type 0
MakesOrStops replay keys effects = ((then : Keys) × (replayed replay keys effects ≡ Ok then)) ⊎ ((count : ℕ) × (why : Refusal) × StopsAt replay keys effects count why)

-- an effect in front that makes some keys
made_first : (replay : Meaning) (keys then : Keys) (e : Effect) (es : List Effect) → replay keys e ≡ Ok then → replayed replay keys (e ∷ es) ≡ replayed replay then es
made_first replay keys then e es is = ap (λ (r : Result Keys Refusal). and_then r (λ k. replayed replay k es)) is

stops_later : (replay : Meaning) (keys then : Keys) (e : Effect) (es : List Effect) → replay keys e ≡ Ok then → MakesOrStops replay then es → MakesOrStops replay keys (e ∷ es)
stops_later replay keys then e es is (inl (last, made)) = inl (last, made_first replay keys then e es is ∙ made)
stops_later replay keys then e es is (inr (count, why, stop)) =
    inr (suc count, why, record { effect = stop.effect; then = stop.then; there = stop.there; before = made_first replay keys then e (take count es) is ∙ stop.before; refused = stop.refused })

stops_first : (replay : Meaning) (keys : Keys) (e : Effect) (es : List Effect) (r : Result Keys Refusal) → replay keys e ≡ r → ((then : Keys) → MakesOrStops replay then es) → MakesOrStops replay keys (e ∷ es)
stops_first replay keys e es (Ok then) is go_on = stops_later replay keys then e es is (go_on then)
stops_first replay keys e es (Err why) is go_on = inr (0, why, record { effect = e; then = keys; there = refl; before = refl; refused = is })

makes_or_stops : (replay : Meaning) (keys : Keys) (es : List Effect) → MakesOrStops replay keys es
makes_or_stops replay keys [] = inl (keys, refl)
makes_or_stops replay keys (e ∷ es) = stops_first replay keys e es (replay keys e) refl (λ then. makes_or_stops replay then es)

and_then-ok : (r : Result Keys Refusal) (next : Keys → Result Keys Refusal) (keys : Keys) → and_then r next ≡ Ok keys → (then : Keys) × (r ≡ Ok then) × (next then ≡ Ok keys)
and_then-ok (Ok then) next keys is = (then, refl, is)
and_then-ok (Err why) next keys is = absurd cc

-- nothing is made behind an effect that makes nothing
refused_behind : (replay : Meaning) (keys then : Keys) (done more : List Effect) (e : Effect) (why : Refusal) → replayed replay keys done ≡ Ok then → replay then e ≡ Err why → replayed replay keys (done ++ e ∷ more) ≡ Err why
refused_behind replay keys then done more e why made refused =
    replayed-on replay keys then done (e ∷ more) made ∙ ap (λ (r : Result Keys Refusal). and_then r (λ k. replayed replay k more)) refused

no_later : (replay : Meaning) (keys last : Keys) (e f : Effect) (es : List Effect) (why : Refusal) → e ≡ f → replay keys e ≡ Err why → ¬ (replayed replay keys (f ∷ es) ≡ Ok last)
no_later replay keys last e f es why same refused made =
    let first = and_then-ok (replay keys f) (λ k. replayed replay k es) last made in
    let is : replay keys e ≡ Ok first.0 = ap (λ (x : Effect). replay keys x) same ∙ first.1 in
    absurd cc

-- there is one first effect that makes nothing
first_one : (replay : Meaning) (keys a b : Keys) (done other more others : List Effect) (e f : Effect) (why reason : Refusal) → replayed replay keys done ≡ Ok a → replay a e ≡ Err why → replayed replay keys other ≡ Ok b → replay b f ≡ Err reason → done ++ e ∷ more ≡ other ++ f ∷ others →
    length done ≡ length other
first_one replay keys a b [] [] more others e f why reason made_a refused_a made_b refused_b same = refl
first_one replay keys a b [] (g ∷ other) more others e f why reason made_a refused_a made_b refused_b same =
    let here : e ≡ g = cc in
    let begun : keys ≡ a = cc in
    absurd (no_later replay keys b e g other why here (ap (λ (k : Keys). replay k e) begun ∙ refused_a) made_b)
first_one replay keys a b (d ∷ done) [] more others e f why reason made_a refused_a made_b refused_b same =
    let here : f ≡ d = cc in
    let begun : keys ≡ b = cc in
    absurd (no_later replay keys a f d done reason here (ap (λ (k : Keys). replay k f) begun ∙ refused_b) made_a)
first_one replay keys a b (d ∷ done) (g ∷ other) more others e f why reason made_a refused_a made_b refused_b same =
    let here : d ≡ g = cc in
    let behind : done ++ e ∷ more ≡ other ++ f ∷ others = cc in
    let first = and_then-ok (replay keys d) (λ k. replayed replay k done) a made_a in
    let second = and_then-ok (replay keys g) (λ k. replayed replay k other) b made_b in
    let both : Ok first.0 ≡ Ok second.0 = sym first.1 ∙ ap (λ (x : Effect). replay keys x) here ∙ second.1 in
    let then : second.0 ≡ first.0 = cc in
    let made : replayed replay first.0 other ≡ Ok b = ap (λ (k : Keys). replayed replay k other) (sym then) ∙ second.2 in
    omega (arith, first_one replay first.0 a b done other more others e f why reason first.2 refused_a made refused_b behind)

-- Behind effects of units that make some keys, one of a unit makes nothing of these. It begins at
-- this place of the units' bytes.
pub record StopsIn (replay : Meaning) (keys : Keys) (all : List Unit) (why : Refusal) (at : ℕ) : Type 0 where
  pub units : List Unit
  pub next : Unit
  pub more : List Unit
  pub count : ℕ
  pub effect : Effect
  pub then : Keys
  pub whole : all ≡ units ++ next ∷ more
  pub there : slice_get next.effects count ≡ Some effect
  pub before : replayed replay keys (effects_of units ++ take count next.effects) ≡ Ok then
  pub refused : replay then effect ≡ Err why
  pub place : at ≡ length (units_bytes units) + effect_start next count

abbrev pub UnitsMakeOrStop : Meaning → Keys → List Unit → Type 0
UnitsMakeOrStop replay keys units = ((then : Keys) × (replayed replay keys (effects_of units) ≡ Ok then)) ⊎ ((why : Refusal) × (at : ℕ) × StopsIn replay keys units why at)

stops_here : (replay : Meaning) (keys : Keys) (u : Unit) (us : List Unit) (count : ℕ) (why : Refusal) → StopsAt replay keys u.effects count why → StopsIn replay keys (u ∷ us) why (effect_start u count)
stops_here replay keys u us count why stop = record {
  units = [];
  next = u;
  more = us;
  count = count;
  effect = stop.effect;
  then = stop.then;
  whole = refl;
  there = stop.there;
  before = stop.before;
  refused = stop.refused;
  place = omega arith;
}

stops_behind : (replay : Meaning) (keys then : Keys) (u : Unit) (us : List Unit) (why : Refusal) (at : ℕ) → replayed replay keys u.effects ≡ Ok then → StopsIn replay then us why at → StopsIn replay keys (u ∷ us) why (length (unit_bytes u) + at)
stops_behind replay keys then u us why at made stop =
    let last = take stop.count stop.next.effects in
    record {
      units = u ∷ stop.units;
      next = stop.next;
      more = stop.more;
      count = stop.count;
      effect = stop.effect;
      then = stop.then;
      whole = ap (λ (xs : List Unit). u ∷ xs) stop.whole;
      there = stop.there;
      before = ap (λ (es : List Effect). replayed replay keys es) (append_assoc u.effects (effects_of stop.units) last) ∙ replayed-on replay keys then u.effects (effects_of stop.units ++ last) made ∙ stop.before;
      refused = stop.refused;
      place = omega (arith, stop.place, length-append (unit_bytes u) (units_bytes stop.units));
    }

unit_made : (replay : Meaning) (keys then : Keys) (u : Unit) (us : List Unit) → replayed replay keys u.effects ≡ Ok then → UnitsMakeOrStop replay then us → UnitsMakeOrStop replay keys (u ∷ us)
unit_made replay keys then u us made (inl (last, makes)) = inl (last, replayed-on replay keys then u.effects (effects_of us) made ∙ makes)
unit_made replay keys then u us made (inr (why, at, stop)) = inr (why, length (unit_bytes u) + at, stops_behind replay keys then u us why at made stop)

unit_first : (replay : Meaning) (keys : Keys) (u : Unit) (us : List Unit) → MakesOrStops replay keys u.effects → ((then : Keys) → UnitsMakeOrStop replay then us) → UnitsMakeOrStop replay keys (u ∷ us)
unit_first replay keys u us (inl (then, made)) go_on = unit_made replay keys then u us made (go_on then)
unit_first replay keys u us (inr (count, why, stop)) go_on = inr (why, effect_start u count, stops_here replay keys u us count why stop)

-- the effects of units make some keys, or one of them is the first that makes nothing
pub units_make_or_stop : (replay : Meaning) (keys : Keys) (us : List Unit) → UnitsMakeOrStop replay keys us
units_make_or_stop replay keys [] = inl (keys, refl)
units_make_or_stop replay keys (u ∷ us) = unit_first replay keys u us (makes_or_stops replay keys u.effects) (λ then. units_make_or_stop replay then us)

split_at : (es : List Effect) (n : ℕ) (e : Effect) → slice_get es n ≡ Some e → es ≡ take n es ++ e ∷ drop (suc n) es
split_at [] n e there = absurd (none-some e there)
split_at (f ∷ es) zero e there = ap (λ (x : Effect). x ∷ es) (same_Some f e there)
split_at (f ∷ es) (suc n) e there = ap (λ (xs : List Effect). f ∷ xs) (split_at es n e there)

-- the effects of the units, those before it and those behind it
effects_split : (replay : Meaning) (keys : Keys) (all : List Unit) (why : Refusal) (at : ℕ) → (stop : StopsIn replay keys all why at) →
    effects_of all ≡ (effects_of stop.units ++ take stop.count stop.next.effects) ++ stop.effect ∷ (drop (suc stop.count) stop.next.effects ++ effects_of stop.more)
effects_split replay keys all why at stop =
    let front = effects_of stop.units in
    let done = take stop.count stop.next.effects in
    let left = drop (suc stop.count) stop.next.effects in
    let more = effects_of stop.more in
    ap effects_of stop.whole ∙ flat_map-append (λ (u : Unit). u.effects) stop.units (stop.next ∷ stop.more)
    ∙ ap (λ (es : List Effect). front ++ (es ++ more)) (split_at stop.next.effects stop.count stop.effect stop.there)
    ∙ ap (λ (es : List Effect). front ++ es) (append_assoc done (stop.effect ∷ left) more)
    ∙ sym (append_assoc front done (stop.effect ∷ left ++ more))

-- units one of whose effects makes nothing make nothing
pub stops_refuse : (replay : Meaning) (keys : Keys) (all : List Unit) (why : Refusal) (at : ℕ) → StopsIn replay keys all why at → replayed replay keys (effects_of all) ≡ Err why
stops_refuse replay keys all why at stop =
    ap (λ (es : List Effect). replayed replay keys es) (effects_split replay keys all why at stop)
    ∙ refused_behind replay keys stop.then (effects_of stop.units ++ take stop.count stop.next.effects) (drop (suc stop.count) stop.next.effects ++ effects_of stop.more) stop.effect why stop.before stop.refused

-- how many effects stand in front says which of which unit it is
place_one : (xs ys : List Unit) (x y : Unit) (p q : List Unit) (n m : ℕ) → xs ++ x ∷ p ≡ ys ++ y ∷ q → n < length x.effects → m < length y.effects → length (effects_of xs) + n ≡ length (effects_of ys) + m →
    length (units_bytes xs) + effect_start x n ≡ length (units_bytes ys) + effect_start y m
place_one [] [] x y p q n m whole n_in m_in count =
    let here : x ≡ y = cc in
    let same : n ≡ m = omega (arith, count) in
    omega (arith, ap (λ (u : Unit). effect_start u n) here, ap (λ (k : ℕ). effect_start y k) same)
place_one [] (v ∷ ys) x y p q n m whole n_in m_in count =
    let here : x ≡ v = cc in
    absurd (omega (arith, n_in, count, ap (λ (u : Unit). length u.effects) here, length-append v.effects (effects_of ys)))
place_one (u ∷ xs) [] x y p q n m whole n_in m_in count =
    let here : y ≡ u = cc in
    absurd (omega (arith, m_in, count, ap (λ (v : Unit). length v.effects) here, length-append u.effects (effects_of xs)))
place_one (u ∷ xs) (v ∷ ys) x y p q n m whole n_in m_in count =
    let here : u ≡ v = cc in
    let later : xs ++ x ∷ p ≡ ys ++ y ∷ q = cc in
    let fewer : length (effects_of xs) + n ≡ length (effects_of ys) + m = omega (arith, count, ap (λ (w : Unit). length w.effects) here, length-append u.effects (effects_of xs), length-append v.effects (effects_of ys)) in
    omega (arith, place_one xs ys x y p q n m later n_in m_in fewer, ap (λ (w : Unit). length (unit_bytes w)) here, length-append (unit_bytes u) (units_bytes xs), length-append (unit_bytes v) (units_bytes ys))

count_done : (units : List Unit) (next : Unit) (count : ℕ) → count < length next.effects → length (effects_of units ++ take count next.effects) ≡ length (effects_of units) + count
count_done units next count within =
    omega (arith, length-append (effects_of units) (take count next.effects), length-take-le count next.effects (omega arith))

-- one effect of units is the first that makes nothing
pub stops_one : (replay : Meaning) (keys : Keys) (all : List Unit) (why other : Refusal) (at place : ℕ) → StopsIn replay keys all why at → StopsIn replay keys all other place → (why ≡ other) × (at ≡ place)
stops_one replay keys all why other at place a b =
    let reasons : Err why ≡ Err other = sym (stops_refuse replay keys all why at a) ∙ stops_refuse replay keys all other place b in
    let within_a : a.count < length a.next.effects = slice_get_within a.next.effects a.count a.effect a.there in
    let within_b : b.count < length b.next.effects = slice_get_within b.next.effects b.count b.effect b.there in
    let same = first_one replay keys a.then b.then (effects_of a.units ++ take a.count a.next.effects) (effects_of b.units ++ take b.count b.next.effects)
    (drop (suc a.count) a.next.effects ++ effects_of a.more) (drop (suc b.count) b.next.effects ++ effects_of b.more) a.effect b.effect why other a.before a.refused b.before b.refused
    (sym (effects_split replay keys all why at a) ∙ effects_split replay keys all other place b) in
    let count : length (effects_of a.units) + a.count ≡ length (effects_of b.units) + b.count = sym (count_done a.units a.next a.count within_a) ∙ same ∙ count_done b.units b.next b.count within_b in
    let reason : why ≡ other = cc in
    (reason, a.place ∙ place_one a.units b.units a.next b.next a.more b.more a.count b.count (sym a.whole ∙ b.whole) within_a within_b count ∙ sym b.place)
