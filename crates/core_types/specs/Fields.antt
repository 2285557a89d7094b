-- The fields of a hash: names with values, in the order in which the names came, none of them
-- twice.
use Rattle.std.specs.Prelude.{ℕ, List, [], ◌∷◌, map, fold, Option, Some, None, if◌then◌else◌}
use Rattle.std.specs.List.{IsDistinct}
use Rattle.std.specs.Str.{bytes_eq}
use Rattle.core_types.specs.declared.field.Field.{Field}

-- the value of a name, where there is one
abbrev pub field_value : List Field → List ℕ → Option (List ℕ)
field_value [] name = None
field_value (field ∷ fields) name =
    if bytes_eq name field.name then Some field.value else field_value fields name

-- A field is put: a name that is there keeps its place and gets the value, and a new one goes last.
abbrev pub with_field : List Field → Field → List Field
with_field [] new = new ∷ []
with_field (field ∷ fields) new =
    if bytes_eq new.name field.name then (record field { value = new.value }) ∷ fields
    else field ∷ with_field fields new

-- fields are put, one after the other
abbrev pub with_fields : List Field → List Field → List Field
with_fields fields news = fold with_field fields news

-- a name is taken out, and the others keep their order
abbrev pub without_field : List Field → List ℕ → List Field
without_field [] name = []
without_field (field ∷ fields) name =
    if bytes_eq name field.name then fields else field ∷ without_field fields name

-- no name stands twice
abbrev pub AreDistinct : List Field → Type 0
AreDistinct fields = IsDistinct bytes_eq (map (λ field. field.name) fields)

-- names are taken out, one after the other
abbrev pub without_fields : List Field → List (List ℕ) → List Field
without_fields fields names = fold without_field fields names
