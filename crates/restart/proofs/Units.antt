-- A log replayed unit by unit.
use Rattle.std.proofs.Common.{◌≡◌, ℕ, ◌+◌, ◌<◌, ◌≤◌, List, [], ◌∷◌, ◌++◌, length, take, slice_get, Some, Ok, refl, sym, ap, ◌∙◌, append_assoc, length-append, inl, inr, arith}
use Rattle.std.specs.List.{AllByRecursion}
use Rattle.std.proofs.lemmas.List.{drop_all}
use Rattle.std.proofs.lemmas.Option.{slice_get_within}
use Rattle.core_types.specs.Keys.{Keys, no_keys}
use Rattle.core_types.specs.declared.effect.Effect.{Effect}
use Rattle.effect_log.specs.declared.reason.Reason.{Reason}
use Rattle.effect_log.specs.Unit.{IsLoggable}
use Rattle.effect_log.specs.Log.{unit_bytes, units_bytes, effect_start}
use Rattle.effect_log.specs.Reading.{Log, ahead, TakesUnit, IsTail, IsFaulty}
use Rattle.effect_log.specs.Replay.{Meaning, replayed, effects_of, Holds, IsRefused}
use Rattle.effect_log.proofs.Replays.{replayed-on, units_bytes-push, effects_of-push, each-push, unit_some}
use Rattle.restart.specs.declared.opening.OpenStop.{OpenStop}
use Rattle.restart.specs.declared.opening.OpenStop.TheVariants as stops
use Rattle.restart.specs.inner.Replaying.{AreReplayable, UnitStop, BytesStop}
use Rattle.restart.specs.inner.Progress.{Progress}

some_injective : (a b : ℕ) → Some a ≡ Some b → a ≡ b
some_injective a b e = cc

-- nothing was taken
pub starts : (replay : Meaning) (bytes : List ℕ) (log : Log) (keys : Keys) → log.bytes ≡ bytes → log.place ≡ 0 → keys ≡ no_keys → Progress replay bytes log keys
starts replay bytes log keys same place none =
    record { units = []; each = tt; same = same; whole = rw (place, same) refl; place = place; makes = ap Ok (sym none) }

-- the effects of a unit can be replayed
are_replayable : (effects : List Effect) → AllByRecursion IsLoggable effects → AreReplayable effects
are_replayable [] each = tt
are_replayable (e ∷ effects) each = (each.0.request, are_replayable effects each.1)

pub unit_replayable : (old new : Log) (effects : List Effect) → TakesUnit old new effects → AreReplayable effects
unit_replayable old new effects t = rw t.effects_are (are_replayable t.unit.effects t.is_unit.each)

module _ (replay : Meaning) (bytes : List ℕ) (old new : Log) (keys : Keys) (p : Progress replay bytes old keys) (effects : List Effect) (t : TakesUnit old new effects) where
  all : bytes ≡ units_bytes p.units ++ (unit_bytes t.unit ++ ahead new)
  all = p.whole ∙ ap (λ (more : List ℕ). units_bytes p.units ++ more) t.taken

  -- a unit more was taken, and its effects were replayed
  pub goes_on : (then : Keys) → replayed replay keys effects ≡ Ok then → Progress replay bytes new then
  goes_on then made = record {
    units = p.units ++ t.unit ∷ [];
    each = each-push p.units t.unit p.each t.is_unit;
    same = t.bytes ∙ p.same;
    whole = all ∙ sym (append_assoc (units_bytes p.units) (unit_bytes t.unit) (ahead new)) ∙ ap (λ (front : List ℕ). front ++ ahead new) (sym (units_bytes-push p.units t.unit));
    place = omega (arith, t.place, p.place, ap length (units_bytes-push p.units t.unit), length-append (units_bytes p.units) (unit_bytes t.unit));
    makes = ap (replayed replay no_keys) (effects_of-push p.units t.unit) ∙ replayed-on replay no_keys keys (effects_of p.units) t.unit.effects p.makes ∙ ap (replayed replay keys) (sym t.effects_are) ∙ made;
  }

  -- less is left
  pub shorter : length (ahead new) < length (ahead old)
  shorter = omega (arith, ap length t.taken, length-append (unit_bytes t.unit) (ahead new), unit_some t.unit t.is_unit)

  -- an effect was refused
  pub stops_in : (stop : OpenStop) → UnitStop replay stop keys effects new.starts → BytesStop replay stop bytes
  stops_in (stops.LogRefused file at why) (is, refused) = (
    is,
    inl record {
      units = p.units;
      next = t.unit;
      rest = ahead new;
      count = refused.count;
      effect = refused.effect;
      keys = refused.made;
      each = p.each;
      is_unit = t.is_unit;
      whole = all ∙ sym (append_assoc (units_bytes p.units) (unit_bytes t.unit) (ahead new));
      there = ap (λ (es : List Effect). slice_get es refused.count) (sym t.effects_are) ∙ refused.there;
      before = replayed-on replay no_keys keys (effects_of p.units) (take refused.count t.unit.effects) p.makes ∙ ap (λ (es : List Effect). replayed replay keys (take refused.count es)) (sym t.effects_are) ∙ refused.before;
      refused = refused.refused;
      place = (some_injective at (old.place + effect_start t.unit refused.count) (sym refused.start ∙ t.starts refused.count (slice_get_within effects refused.count refused.effect refused.there))) ∙ ap (λ (n : ℕ). n + effect_start t.unit refused.count) p.place;
    },
  )
  stops_in (stops.Stopped why) stop = tt
  stops_in stops.NotBuilt stop = stop
  stops_in stops.Dir stop = stop

module _ (replay : Meaning) (bytes : List ℕ) (log : Log) (keys : Keys) (p : Progress replay bytes log keys) where
  -- nothing is left
  pub ends : (size : ℕ) → size ≡ length bytes → log.place ≡ length log.bytes → Holds replay bytes keys size
  ends size is last = record {
    units = p.units;
    holds = record {
      each = p.each;
      rest = ahead log;
      whole = p.whole;
      place = omega (arith, is, last, p.place, ap length p.same);
      torn = inl (drop_all log.place log.bytes (omega (arith, last)));
    };
    makes = p.makes;
  }

  -- a torn unit is left
  pub ends_torn : (kept : ℕ) → IsTail log kept → Holds replay bytes keys kept
  ends_torn kept tail = record {
    units = p.units;
    holds = record { each = p.each; rest = ahead log; whole = p.whole; place = tail.0 ∙ p.place; torn = inr tail.1 };
    makes = p.makes;
  }

  -- the next unit has a fault of form
  pub breaks : (at : ℕ) (why : Reason) → IsFaulty log at why → IsRefused replay bytes why at
  breaks at why bad = inr record {
    units = p.units;
    keys = keys;
    breaks = record { each = p.each; rest = ahead log; place = bad.place; whole = p.whole; fault = bad.fault; place_is = omega (arith, bad.offset_is, p.place) };
    before = p.makes;
  }

  pub within : log.place ≤ length bytes
  within = omega (arith, ap length p.whole, length-append (units_bytes p.units) (ahead log), p.place)
