-- A request that is being read.
use Rattle.std.specs.Prelude.{ℕ, List}

-- the words that are whole, and what came of the next one
pub record DraftWords : Type 0 where
  pub words : List (List ℕ)
  pub tail : List ℕ
