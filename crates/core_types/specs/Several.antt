-- What a list of replies is seen as.
use Rattle.std.specs.Prelude.{ℕ, List}
use Rattle.core_types.specs.declared.part.Part.{Part}

-- how many replies there are, and the parts of all of them, one reply after the other
pub record Several : Type 0 where
  pub count : ℕ
  pub parts : List Part
