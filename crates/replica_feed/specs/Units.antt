-- The units of a run that are kept for replicas.
use Rattle.std.specs.Prelude.{◌≡◌, ◌<◌, ◌≤◌, ◌+◌, nat_lt, nat_le, ℕ, List, [], ◌∷◌, ◌++◌, length, take, drop, Option, None, Some, if◌then◌else◌, ⊤}
use Rattle.std.specs.List.{AllByRecursion, find}
use Rattle.core_types.specs.declared.effect.Effect.{Effect}
use Rattle.core_types.specs.Shown.{Backlog, NumberedEffects}
use Rattle.effect_log.specs.Unit.{IsLoggable}
use Rattle.replica_feed.specs.declared.frame.Frame.{Frame}
use Rattle.replica_feed.specs.declared.frame.Frame.TheVariants as frame
use Rattle.replica_feed.specs.Frames.{IsForward, IsLoggableFrame}
use Rattle.replica_feed.specs.declared.backlog.Since.{Since}
use Rattle.replica_feed.specs.declared.backlog.Since.TheVariants as since

-- how many units are kept
abbrev pub most_units : ℕ
most_units = 1048576

-- nothing happened since this number
abbrev pub kept_from : ℕ → ℕ → Backlog
kept_from run first = record { run = run; first = first; end = first; units = [] }

-- the number after the last event that has effects, or the first number
abbrev pub last_to : ℕ → List NumberedEffects → ℕ
last_to first [] = first
last_to first (u ∷ units) = last_to u.to units

-- one event more, without effects
abbrev pub one_later : Backlog → Backlog
one_later b = record b { end = b.end + 1 }

-- its unit, with those before it that have none
abbrev pub with_unit : Backlog → List Effect → Backlog
with_unit b effects =
    record b {
      end = b.end + 1;
      units = b.units
          ++ record { from = last_to b.first b.units; to = b.end + 1; effects = effects } ∷ [];
    }

-- without the oldest unit: all begins after its event
abbrev pub without_oldest : Backlog → Backlog
without_oldest b =
    record b { first = last_to b.first (take 1 b.units); units = drop 1 b.units }

-- as many units as are kept
abbrev pub within_most : Backlog → Backlog
within_most b = if nat_lt most_units (length b.units) then without_oldest b else b

-- one event more, with these effects
abbrev pub pushed : Backlog → List Effect → Backlog
pushed b [] = one_later b
pushed b (e ∷ effects) = within_most (with_unit b (e ∷ effects))

-- the frame from a number on: to the first event that has effects, or to the end
abbrev pub frame_from : Backlog → ℕ → Option NumberedEffects → Frame
frame_from b n (Some u) = frame.Unit b.run n u.to u.effects
frame_from b n None = frame.Unit b.run n b.end []

-- what comes since a number: too much is missing, or nothing, or a frame
abbrev pub since_in : Backlog → ℕ → Since
since_in b n =
    if nat_lt n b.first then since.Behind b.first
    else if nat_le b.end n then since.Caught
    else since.Frame (frame_from b n (find (λ u. nat_lt n u.to) b.units))

-- units from a number to another: each begins where the one before it ends, and has effects, which
-- can be logged
abbrev pub AreKept : ℕ → List NumberedEffects → ℕ → Type 0
AreKept first [] end = first ≤ end
AreKept first (u ∷ units) end = (u.from ≡ first) × (first < u.to) × (0 < length u.effects)
    × AllByRecursion IsLoggable u.effects × AreKept u.to units end

-- where a frame comes, it can be written
abbrev pub IsWritable : Since → Type 0
IsWritable (since.Frame f) = IsForward f × IsLoggableFrame f
IsWritable since.Caught = ⊤
IsWritable (since.Behind first) = ⊤
