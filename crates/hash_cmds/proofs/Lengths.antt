-- How long the lists are that the commands make. Serves clause more of sets, and clause does of
-- remove_fields.
use Rattle.std.proofs.Common.{◌+◌, ◌≤◌, ℕ, suc, Bool, true, false, List, [], ◌∷◌, length, if◌then◌else◌, arith}
use Rattle.std.specs.Str.{bytes_eq}
use Rattle.core_types.specs.declared.field.Field.{Field}
use Rattle.core_types.specs.Fields.{with_field, with_fields, without_field, without_fields}

-- at most one more
pub record Between (low high size : ℕ) : Type 0 where
  pub at_least : low ≤ size
  pub at_most : size ≤ high

pub length-with_field : (fields : List Field) (new : Field) → Between (length fields) (length fields + 1) (length (with_field fields new))
length-with_field [] new = record { at_least = omega arith; at_most = omega arith }
length-with_field (field ∷ fields) new = by (bytes_eq new.name field.name) (length-with_field fields new)
  where
    by : (b : Bool) → Between (length fields) (length fields + 1) (length (with_field fields new))
        → Between (suc (length fields)) (suc (length fields) + 1) (length (if b then (record field { value = new.value }) ∷ fields else field ∷ with_field fields new))
    by true rest = record { at_least = omega arith; at_most = omega arith }
    by false rest = record { at_least = omega (arith, rest.at_least); at_most = omega (arith, rest.at_most) }

pub length-with_fields : (fields news : List Field) → Between (length fields) (length fields + length news) (length (with_fields fields news))
length-with_fields fields [] = record { at_least = omega arith; at_most = omega arith }
length-with_fields fields (new ∷ news) =
    let one = length-with_field fields new in
    let rest = length-with_fields (with_field fields new) news in
    record { at_least = omega (arith, one.at_least, rest.at_least); at_most = omega (arith, one.at_most, rest.at_most) }

-- at most one fewer
pub length-without_field : (fields : List Field) (name : List ℕ) → Between (length (without_field fields name)) (length (without_field fields name) + 1) (length fields)
length-without_field [] name = record { at_least = omega arith; at_most = omega arith }
length-without_field (field ∷ fields) name = by (bytes_eq name field.name) (length-without_field fields name)
  where
    by : (b : Bool) → Between (length (without_field fields name)) (length (without_field fields name) + 1) (length fields)
        → Between (length (if b then fields else field ∷ without_field fields name)) (length (if b then fields else field ∷ without_field fields name) + 1) (suc (length fields))
    by true rest = record { at_least = omega arith; at_most = omega arith }
    by false rest = record { at_least = omega (arith, rest.at_least); at_most = omega (arith, rest.at_most) }

pub length-without_fields : (fields : List Field) (names : List (List ℕ)) → Between (length (without_fields fields names)) (length (without_fields fields names) + length names) (length fields)
length-without_fields fields [] = record { at_least = omega arith; at_most = omega arith }
length-without_fields fields (name ∷ names) =
    let one = length-without_field fields name in
    let rest = length-without_fields (without_field fields name) names in
    record { at_least = omega (arith, one.at_least, rest.at_least); at_most = omega (arith, one.at_most, rest.at_most) }
