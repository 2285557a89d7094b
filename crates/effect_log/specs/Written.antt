-- The units that events write, as a log holds them.
use Rattle.std.specs.Prelude.{ℕ, List, [], ◌∷◌}
use Rattle.std.specs.List.{AllByRecursion, flat_map}
use Rattle.core_types.specs.declared.effect.Effect.{Effect}
use Rattle.resp_codec.specs.Spelling.{multibulk}
use Rattle.effect_log.specs.Unit.{unit, multi, exec, IsLoggable}
use Rattle.effect_log.specs.Log.{Unit}

-- each event's effects can be logged
abbrev pub AreLoggable : List (List Effect) → Type 0
AreLoggable events = AllByRecursion (AllByRecursion IsLoggable) events

-- the effects of events, in order
abbrev pub effects_in : List (List Effect) → List Effect
effects_in events = flat_map (λ effects. effects) events

-- what the events write, one after the other
abbrev pub log_text : List (List Effect) → List ℕ
log_text events = flat_map unit events

-- the unit of an event, where it has effects
abbrev pub written : List Effect → List Unit
written [] = []
written (e ∷ []) = record { opening = []; effects = e ∷ []; closing = [] } ∷ []
written (e ∷ f ∷ more) =
    record {
      opening = multibulk (multi ∷ []);
      effects = e ∷ f ∷ more;
      closing =
          multibulk (exec ∷ []);
    } ∷ []

-- the units of events in order: an event without effects has none
abbrev pub units_written : List (List Effect) → List Unit
units_written events = flat_map written events
