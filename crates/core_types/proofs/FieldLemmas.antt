-- What the fields of a hash are, of the entries of the map behind it. Serves the clauses of
-- HashBody.
use Rattle.std.proofs.Common.{◌≡◌, ℕ, zero, suc, ◌+◌, ◌<◌, Bool, true, false, not, cond, nat_lt, position, List, [], ◌∷◌, length, map, take, slice_get, Option, Some, None, if◌then◌else◌, unwrap_or, refl, sym, subst, ap, ◌∙◌, arith}
use Rattle.std.proofs.lemmas.Bool.{ltb-true}
use Rattle.std.proofs.lemmas.Map.Entries.{length-keys_of}
use Rattle.std.proofs.lemmas.Option.{none-some, same_Some}
use Rattle.std.specs.Str.{bytes_eq}
use Rattle.std.specs.Cmp.Lexicographic.{nat_list_eq_equiv}
use Rattle.std.specs.List.{IsDistinct, AllByRecursion, position_or_len}
use Rattle.std.specs.Map.{lookup, remove_entry, keys_of}
use Rattle.std.specs.declared.alloc.Global.{Global}
use Rattle.std.specs.declared.vec.Vec.{Vec}
use Rattle.indexmap.specs.IndexMap.{insert_entry, set_value_at}
use Rattle.core_types.specs.declared.field.Field.{Field}
use Rattle.core_types.specs.Fields.{field_value, with_field, without_field, AreDistinct}
use Rattle.core_types.specs.HashEntries.{fields_of}

-- two vectors have the same bytes
abbrev pub same_bytes : Vec ℕ Global → Vec ℕ Global → Bool
same_bytes a b = bytes_eq a.items b.items

-- the place of the first entry of a name, or the number of entries where there is none
abbrev pub place_of : List ℕ → List (Vec ℕ Global × List ℕ) → ℕ
place_of name entries = position_or_len (λ (k : Vec ℕ Global). bytes_eq name k.items) (keys_of entries)

abbrev pub field_of : Vec ℕ Global × List ℕ → Field
field_of entry = record { name = entry.0.items; value = entry.1 }

pub value-fields_of : (entries : List (Vec ℕ Global × List ℕ)) (name : List ℕ) → lookup (λ (k : Vec ℕ Global). bytes_eq name k.items) entries ≡ field_value (fields_of entries) name
value-fields_of [] name = refl
value-fields_of (entry ∷ entries) name =
    ap (λ (rest : Option (List ℕ)). if bytes_eq name entry.0.items then Some entry.1 else rest) (value-fields_of entries name)

pub fields_of-insert : (entries : List (Vec ℕ Global × List ℕ)) (name : Vec ℕ Global) (value : List ℕ) → fields_of (insert_entry same_bytes entries name value) ≡ with_field (fields_of entries) (record { name = name.items; value = value })
fields_of-insert [] name value = refl
fields_of-insert (entry ∷ entries) name value = by (bytes_eq name.items entry.0.items) (fields_of-insert entries name value)
  where
    by : (b : Bool) → fields_of (insert_entry same_bytes entries name value) ≡ with_field (fields_of entries) (record { name = name.items; value = value })
        → fields_of (if b then ((entry.0, value) ∷ entries) else (entry ∷ insert_entry same_bytes entries name value)) ≡ (if b then ((record { name = entry.0.items; value = value }) ∷ fields_of entries) else (field_of entry ∷ with_field (fields_of entries) (record { name = name.items; value = value })))
    by true rest = refl
    by false rest = ap (λ (fields : List Field). field_of entry ∷ fields) rest

pub fields_of-remove : (entries : List (Vec ℕ Global × List ℕ)) (name : List ℕ) → fields_of (remove_entry (λ (k : Vec ℕ Global). bytes_eq name k.items) entries) ≡ without_field (fields_of entries) name
fields_of-remove [] name = refl
fields_of-remove (entry ∷ entries) name = by (bytes_eq name entry.0.items) (fields_of-remove entries name)
  where
    by : (b : Bool) → fields_of (remove_entry (λ (k : Vec ℕ Global). bytes_eq name k.items) entries) ≡ without_field (fields_of entries) name
        → fields_of (if b then entries else (entry ∷ remove_entry (λ (k : Vec ℕ Global). bytes_eq name k.items) entries)) ≡ (if b then fields_of entries else (field_of entry ∷ without_field (fields_of entries) name))
    by true rest = refl
    by false rest = ap (λ (fields : List Field). field_of entry ∷ fields) rest

-- a name that differs from those of the entries differs from those of the fields
others : (name : Vec ℕ Global) (entries : List (Vec ℕ Global × List ℕ)) → AllByRecursion (λ k. same_bytes name k ≡ false) (keys_of entries) → AllByRecursion (λ k. bytes_eq name.items k ≡ false) (map (λ field. field.name) (fields_of entries))
others name [] all = all
others name (entry ∷ entries) all = (all.0, others name entries all.1)

pub fields_of-distinct : (entries : List (Vec ℕ Global × List ℕ)) → IsDistinct same_bytes (keys_of entries) → AreDistinct (fields_of entries)
unfolding IsDistinct
fields_of-distinct [] distinct = distinct
fields_of-distinct (entry ∷ entries) distinct = (others entry.0 entries distinct.0, fields_of-distinct entries distinct.1)

-- what holds of all names holds of the one at a place
at_place : (P : List ℕ → Type 0) (fields : List Field) (n : ℕ) (field : Field) → AllByRecursion P (map (λ f. f.name) fields) → slice_get fields n ≡ Some field → P field.name
at_place P [] n field all at = absurd (none-some field at)
at_place P (f ∷ fields) zero field all at = subst (λ g. P g.name) (ap (λ found. unwrap_or found f) at) all.0
at_place P (f ∷ fields) (suc n) field all at = at_place P fields n field all.1 at

-- a field that is put after those before it goes last
pub put_next : (fields : List Field) (n : ℕ) (field : Field) → AreDistinct fields → slice_get fields n ≡ Some field → with_field (take n fields) field ≡ take (suc n) fields
unfolding IsDistinct
put_next [] n field distinct at = absurd (none-some field at)
put_next (f ∷ fields) zero field distinct at = ap (λ (g : Field). g ∷ []) (sym (ap (λ found. unwrap_or found f) at))
put_next (f ∷ fields) (suc n) field distinct at =
    let other = at_place (λ name. bytes_eq f.name name ≡ false) fields n field distinct.0 at in
    let test : bytes_eq field.name f.name ≡ false = nat_list_eq_equiv.symm field.name f.name ∙ other in
    rw test (ap (λ (rest : List Field). f ∷ rest) (put_next fields n field distinct.1 at))

-- a value that is written at the place of a name is put
pub fields_of-set : (entries : List (Vec ℕ Global × List ℕ)) (name value : List ℕ) → place_of name entries < length entries
    → fields_of (set_value_at entries (place_of name entries) value) ≡ with_field (fields_of entries) (record { name = name; value = value })
fields_of-set [] name value there = absurd (omega (arith, there))
fields_of-set (entry ∷ entries) name value there = by (bytes_eq name entry.0.items) (fields_of-set entries name value) there
  where
    put : Field
    put = record { name = name; value = value }

    by : (b : Bool) → (place_of name entries < length entries → fields_of (set_value_at entries (place_of name entries) value) ≡ with_field (fields_of entries) put)
        → cond (not b) (1 + place_of name entries) 0 < length (entry ∷ entries)
        → fields_of (set_value_at (entry ∷ entries) (cond (not b) (1 + place_of name entries) 0) value)
        ≡ (if b then (record (field_of entry) { value = value }) ∷ fields_of entries else field_of entry ∷ with_field (fields_of entries) put)
    by true rest h = refl
    by false rest h =
        let next : 1 + place_of name entries ≡ suc (place_of name entries) = omega arith in
        rw next (ap (λ (fields : List Field). field_of entry ∷ fields) (rest (omega (arith, h))))

-- and so is one that is written at a place which a search for the name gave
pub put_at : (entries : List (Vec ℕ Global × List ℕ)) (name value : List ℕ) (place : ℕ)
    → Some place ≡ position (λ (k : Vec ℕ Global). bytes_eq name k.items) (keys_of entries)
    → fields_of (set_value_at entries place value) ≡ with_field (fields_of entries) (record { name = name; value = value })
put_at entries name value place found =
    by (nat_lt (place_of name entries) (length (keys_of entries))) refl found
  where
    by : (b : Bool) → nat_lt (place_of name entries) (length (keys_of entries)) ≡ b → Some place ≡ cond b (Some (place_of name entries)) None
        → fields_of (set_value_at entries place value) ≡ with_field (fields_of entries) (record { name = name; value = value })
    by true within is =
        let below = ltb-true (place_of name entries) (length (keys_of entries)) within in
        let long = length-keys_of entries in
        rw (same_Some place (place_of name entries) is) (fields_of-set entries name value (omega (arith, below, long)))
    by false within is = absurd (none-some place (sym is))
