-- What the clock of the system is seen as.
use Rattle.std.specs.Prelude.{ℕ}

-- its last reading, at first 0, and how often it has failed
pub record LastReading : Type 0 where
  pub last : ℕ
  pub faults : ℕ
