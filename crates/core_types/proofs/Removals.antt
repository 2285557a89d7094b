-- Taking names out one after the other leaves the fields with other names. Serves clause left of
-- HashBody::remove_all.
use Rattle.std.proofs.Common.{◌≡◌, ℕ, Bool, true, false, not, cond, filter, ◌||◌, List, [], ◌∷◌, map, if◌then◌else◌, refl, ap, ◌∙◌}
use Rattle.std.specs.Str.{bytes_eq}
use Rattle.std.specs.Cmp.Lexicographic.{nat_list_eq_equiv}
use Rattle.std.specs.List.{IsDistinct, AllByRecursion}
use Rattle.std.specs.declared.alloc.Global.{Global}
use Rattle.std.specs.declared.vec.Vec.{Vec}
use Rattle.core_types.specs.declared.field.Field.{Field}
use Rattle.core_types.specs.Fields.{without_field, without_fields, AreDistinct}
use Rattle.core_types.specs.HashEntries.{fields_of}
use Rattle.core_types.specs.inner.Removals.{is_among, those_but}

-- a field in front of others, where it stays
abbrev pub if_stays : Bool → Field → List Field → List Field
if_stays stays field rest = cond stays (field ∷ rest) rest

-- the fields with other names than this one
abbrev pub others : List ℕ → List Field → List Field
others name fields = filter (λ (field : Field). not (bytes_eq name field.name)) fields

-- where no name is this one, all fields are others
all_others : (name : List ℕ) (fields : List Field)
    → AllByRecursion (λ other. bytes_eq name other ≡ false) (map (λ field. field.name) fields)
    → fields ≡ others name fields
all_others name [] all = refl
all_others name (field ∷ fields) all =
    rw all.0 (ap (λ (rest : List Field). field ∷ rest) (all_others name fields all.1))

-- a name that is equal to another differs from what that one differs from
differs : (name other : List ℕ) (fields : List Field) → bytes_eq name other ≡ true
    → AllByRecursion (λ k. bytes_eq other k ≡ false) (map (λ field. field.name) fields)
    → AllByRecursion (λ k. bytes_eq name k ≡ false) (map (λ field. field.name) fields)
differs name other [] same all = all
differs name other (field ∷ fields) same all =
    let first = nat_list_eq_equiv.congr name other field.name same ∙ all.0 in
    (first, differs name other fields same all.1)

-- a name that is taken out of distinct ones leaves the others
pub without_is : (fields : List Field) (name : List ℕ) → AreDistinct fields
    → without_field fields name ≡ others name fields
unfolding IsDistinct
without_is [] name distinct = refl
without_is (field ∷ fields) name distinct =
    by (bytes_eq name field.name) refl (without_is fields name distinct.1)
  where
    by : (b : Bool) → bytes_eq name field.name ≡ b → without_field fields name ≡ others name fields
        → (if b then fields else field ∷ without_field fields name)
        ≡ if_stays (not b) field (others name fields)
    by true same rest = all_others name fields (differs name field.name fields same distinct.0)
    by false same rest = ap (λ (left : List Field). field ∷ left) rest

-- what holds of all names holds of those of the fields that pass a test
all_filtered : (P : List ℕ → Type 0) (test : Field → Bool) (fields : List Field)
    → AllByRecursion P (map (λ field. field.name) fields)
    → AllByRecursion P (map (λ field. field.name) (filter test fields))
all_filtered P test [] all = all
all_filtered P test (field ∷ fields) all = by (test field) (all_filtered P test fields all.1)
  where
    by : (b : Bool) → AllByRecursion P (map (λ f. f.name) (filter test fields))
        → AllByRecursion P (map (λ f. f.name) (if_stays b field (filter test fields)))
    by true rest = (all.0, rest)
    by false rest = rest

-- so distinct names stay distinct
distinct_filtered : (test : Field → Bool) (fields : List Field) → AreDistinct fields
    → AreDistinct (filter test fields)
unfolding IsDistinct
distinct_filtered test [] distinct = distinct
distinct_filtered test (field ∷ fields) distinct =
    by (test field) (distinct_filtered test fields distinct.1)
  where
    by : (b : Bool) → AreDistinct (filter test fields)
        → AreDistinct (if_stays b field (filter test fields))
    by true rest = (all_filtered (λ k. bytes_eq field.name k ≡ false) test fields distinct.0, rest)
    by false rest = rest

-- others than a name, but for more names
others_but : (name : List ℕ) (names : List (List ℕ)) (fields : List Field)
    → those_but names (others name fields) ≡ those_but (name ∷ names) fields
others_but name names [] = refl
others_but name names (field ∷ fields) =
    by (bytes_eq name field.name) (others_but name names fields)
  where
    by : (b : Bool) → those_but names (others name fields) ≡ those_but (name ∷ names) fields
        → those_but names (if_stays (not b) field (others name fields))
        ≡ if_stays (not (b || is_among names field.name)) field (those_but (name ∷ names) fields)
    by true rest = rest
    by false rest = last (is_among names field.name)
      where
        last : (among : Bool) → if_stays (not among) field (those_but names (others name fields))
            ≡ if_stays (not among) field (those_but (name ∷ names) fields)
        last true = rest
        last false = ap (λ (left : List Field). field ∷ left) rest

none_but : (fields : List Field) → fields ≡ those_but [] fields
none_but [] = refl
none_but (field ∷ fields) = ap (λ (left : List Field). field ∷ left) (none_but fields)

-- names that are taken out of distinct ones leave those but them
pub without_those : (names : List (List ℕ)) (fields : List Field) → AreDistinct fields
    → without_fields fields names ≡ those_but names fields
without_those [] fields distinct = none_but fields
without_those (name ∷ names) fields distinct =
    let one = without_is fields name distinct in
    let test : Field → Bool = λ (field : Field). not (bytes_eq name field.name) in
    ap (λ (left : List Field). without_fields left names) one
    ∙ without_those names (others name fields) (distinct_filtered test fields distinct)
    ∙ others_but name names fields

-- entries that stay are the fields that stay
pub entries_but : (names : List (List ℕ)) (test : Vec ℕ Global × List ℕ → Bool)
    (entries : List (Vec ℕ Global × List ℕ)) → ((entry : Vec ℕ Global × List ℕ) → test entry ≡ not (is_among names entry.0.items))
    → fields_of (filter test entries) ≡ those_but names (fields_of entries)
entries_but names test [] says = refl
entries_but names test (entry ∷ entries) says =
    rw (says entry) (by (is_among names entry.0.items) (entries_but names test entries says))
  where
    field : Field
    field = record { name = entry.0.items; value = entry.1 }

    by : (b : Bool) → fields_of (filter test entries) ≡ those_but names (fields_of entries)
        → fields_of (cond (not b) (entry ∷ filter test entries) (filter test entries))
        ≡ if_stays (not b) field (those_but names (fields_of entries))
    by true rest = rest
    by false rest = ap (λ (left : List Field). field ∷ left) rest

-- names that are among the same ones leave the same fields
pub those_same : (names more : List (List ℕ)) (fields : List Field)
    → ((name : List ℕ) → is_among names name ≡ is_among more name)
    → those_but names fields ≡ those_but more fields
those_same names more [] same = refl
those_same names more (field ∷ fields) same =
    rw (same field.name) (by (is_among more field.name) (those_same names more fields same))
  where
    by : (b : Bool) → those_but names fields ≡ those_but more fields
        → if_stays (not b) field (those_but names fields)
        ≡ if_stays (not b) field (those_but more fields)
    by true rest = rest
    by false rest = ap (λ (left : List Field). field ∷ left) rest
