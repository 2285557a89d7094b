-- What a source, a sink and a clock in memory are seen as, and what they tell.
use Rattle.std.specs.Prelude.{ℕ, zero, suc, ◌-◌, min, List, [], ◌∷◌, ◌++◌, length}
use Rattle.std.specs.Prelude.{slice_get, Some, unwrap_or}
use Rattle.io_edges.specs.Told.{SourceTold, SinkTold, ClockTold}

-- the numbers of the calls that fail, counted from 1, how many calls there were, and how many of
-- them failed
pub record Plan : Type 0 where
  pub fails : List ℕ
  pub calls : ℕ
  pub faults : ℕ

-- these calls fail, and none was made yet
abbrev pub planned : List ℕ → Plan
planned fails = record { fails = fails; calls = 0; faults = 0 }

-- the bytes that a source has left, or that a sink has got, and which calls fail
pub record Held : Type 0 where
  pub bytes : List ℕ
  pub plan : Plan

-- these bytes, and no call yet
abbrev pub holding : List ℕ → List ℕ → Held
holding bytes fails = record { bytes = bytes; plan = planned fails }

-- what such a source tells: all
abbrev pub source_telling : Held → SourceTold
source_telling held = record { left = Some held.bytes; faults = held.plan.faults }

-- what such a sink tells: all
abbrev pub sink_telling : Held → SinkTold
sink_telling held = record { got = Some held.bytes; faults = held.plan.faults }

-- the readings that a clock was made with, and how many it has given, at most 2^64 - 1
pub record Fixed : Type 0 where
  pub readings : List ℕ
  pub calls : ℕ

-- The reading of a place, counted from 0. The readings come in order, and then the last one again;
-- 0 where there is none.
abbrev pub reading_at : List ℕ → ℕ → ℕ
reading_at readings place =
    unwrap_or (slice_get readings (min place (length readings - 1))) 0

-- the readings of the first places, this many
abbrev pub readings_given : List ℕ → ℕ → List ℕ
readings_given readings zero = []
readings_given readings (suc place) =
    readings_given readings place ++ reading_at readings place ∷ []

-- what such a clock tells: all
abbrev pub clock_telling : Fixed → ClockTold
clock_telling clock =
    record { given = Some (readings_given clock.readings clock.calls); faults = 0 }
