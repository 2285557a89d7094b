-- Which fields stay where several names are taken out at once.
use Rattle.std.specs.Prelude.{ℕ, Bool, List, not, map, filter}
use Rattle.std.specs.Borrow.{Bor}
use Rattle.std.specs.List.{list_any}
use Rattle.std.specs.Str.{bytes_eq}
use Rattle.core_types.specs.declared.field.Field.{Field}

-- whether a name is one of these
abbrev pub is_among : List (List ℕ) → List ℕ → Bool
is_among names name = list_any (λ other. bytes_eq other name) names

-- the fields whose names are none of these
abbrev pub those_but : List (List ℕ) → List Field → List Field
those_but names fields = filter (λ field. not (is_among names field.name)) fields

-- the names of a set of them
abbrev pub set_names : List (Bor (List ℕ)) → List (List ℕ)
set_names keys = map (λ key. key.now) keys
