-- The entries that are left, of which the first was taken already.
use Rattle.std.specs.Prelude.{List, [], ◌∷◌, Option, None, Some}
use Rattle.std.specs.Borrow.{Bor}

-- where none was taken, none is left
abbrev pub ahead : {K X : Type 0} → Option (Bor K × Bor X) → List (K × X) → List (K × X)
ahead None rest = []
ahead (Some e) rest = (e.0.now, e.1.now) ∷ rest
