-- A line with room.
use Rattle.std.specs.Prelude.{ℕ, List}

-- the numbers in order, and how many there is room for
pub record Line : Type 0 where
  pub numbers : List ℕ
  pub room : ℕ
