-- A run of a host, and the frames that stand for it.
use Rattle.std.specs.Prelude.{◌≡◌, ◌≤◌, ◌+◌, ℕ, List, [], ◌∷◌, ◌++◌, length, take, drop, replicate, Ok}
use Rattle.std.specs.List.{AllByRecursion}
use Rattle.core_types.specs.Keys.{Keys}
use Rattle.core_types.specs.declared.effect.Effect.{Effect}
use Rattle.core_types.specs.Shown.{Backlog, NumberedEffects}
use Rattle.effect_log.specs.Replay.{Meaning, replayed}
use Rattle.effect_log.specs.Written.{effects_in}
use Rattle.replica_feed.specs.declared.frame.Frame.{Frame}
use Rattle.replica_feed.specs.declared.frame.Frame.TheVariants as frame
use Rattle.replica_feed.specs.Units.{last_to}

-- a run: its number, the keys that it began with, and the effects of each of its events
pub record Run : Type 0 where
  pub number : ℕ
  pub opening : Keys
  pub events : List (List Effect)

-- with one event more
abbrev pub with_event : Run → List Effect → Run
with_event r effects = record r { events = r.events ++ effects ∷ [] }

-- the keys after the first events, this many
pub record HasKeys (replay : Meaning) (r : Run) (n : ℕ) (keys : Keys) : Type 0 where
  pub within : n ≤ length r.events
  pub made : replayed replay r.opening (effects_in (take n r.events)) ≡ Ok keys

-- Of the events from a number to another the last has these effects, and the others have none.
pub record IsStretch (r : Run) (from to : ℕ) (effects : List Effect) : Type 0 where
  pub quiet : ℕ
  pub to_is : to ≡ from + quiet + 1
  pub within : to ≤ length r.events
  pub are : drop from (take to r.events) ≡ replicate quiet [] ++ effects ∷ []

-- What a frame says of the run is so, where it says what a file stands for.
abbrev pub StandsFor : Meaning → (List ℕ → Keys → Type 0) → Run → Frame → Type 0
StandsFor replay saved r (frame.Full run number file) =
    (run ≡ r.number) × ((keys : Keys) → saved file keys → HasKeys replay r number keys)
StandsFor replay saved r (frame.Unit run from to effects) =
    (run ≡ r.number) × IsStretch r from to effects

-- each unit is what the run did
abbrev pub AreStretches : Run → List NumberedEffects → Type 0
AreStretches r units = AllByRecursion (λ u. IsStretch r u.from u.to u.effects) units

-- A backlog keeps what the run did from a number on: its units, and nothing after them.
pub record IsBacklogOf (r : Run) (b : Backlog) : Type 0 where
  pub run : b.run ≡ r.number
  pub end : b.end ≡ length r.events
  pub units : AreStretches r b.units
  pub quiet : ℕ
  pub end_is : b.end ≡ last_to b.first b.units + quiet
  pub after : drop (last_to b.first b.units) r.events ≡ replicate quiet []
