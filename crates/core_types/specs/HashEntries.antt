-- The entries of the map behind a hash, as fields.
use Rattle.std.specs.Prelude.{ℕ, List, map}
use Rattle.std.specs.declared.alloc.Global.{Global}
use Rattle.std.specs.declared.vec.Vec.{Vec}
use Rattle.core_types.specs.declared.field.Field.{Field}

abbrev pub fields_of : List (Vec ℕ Global × List ℕ) → List Field
fields_of entries = map (λ entry. record { name = entry.0.items; value = entry.1 }) entries
