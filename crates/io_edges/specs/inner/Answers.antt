-- What the answer of the system's clock makes of the last reading.
use Rattle.std.specs.Prelude.{ℕ, ◌-◌, ◌/◌, ◌^◌, min}
use Rattle.sequences.specs.Causes.{one_more}
use Rattle.io_edges.specs.Real.{LastReading}

-- the milliseconds of this many nanoseconds, or 2^64 - 1 where there are more
abbrev pub milliseconds : ℕ → ℕ
milliseconds nanoseconds = min (nanoseconds / 1_000_000) (2 ^ 64 - 1)

-- it gave a reading
abbrev pub read_as : ℕ → LastReading → LastReading
read_as reading clock = record clock { last = reading }

-- it failed
abbrev pub failed_once : LastReading → LastReading
failed_once clock = record clock { faults = one_more clock.faults }
