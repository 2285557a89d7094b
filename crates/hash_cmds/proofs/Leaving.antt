-- What HDEL leaves. Serves clause does of remove_fields.
use Rattle.std.proofs.Common.{◌≡◌, ◌-◌, ◌≤◌, ◌++◌, ℕ, suc, Bool, true, false, List, [], ◌∷◌, length, drop, ℤ, pos, of_z, w64, Option, Some, None, if◌then◌else◌, refl, sym, ap, ◌∙◌, subst, arith, length-append}
use Rattle.std.specs.Option.{option_to_list}
use Rattle.std.specs.Str.{bytes_eq}
use Rattle.core_types.specs.Done.{answers}
use Rattle.core_types.specs.Fields.{without_field, without_fields}
use Rattle.core_types.specs.declared.field.Field.{Field}
use Rattle.core_types.specs.declared.note.Note.{Note}
use Rattle.core_types.specs.declared.reply.Reply.TheVariants as reply
use Rattle.hash_cmds.specs.Removing.{remove_fields}
use Rattle.hash_cmds.proofs.Lengths.{length-without_fields}

-- where no field went, the fields are the same
same_without : (fields : List Field) (name : List ℕ) → length fields ≤ length (without_field fields name) → without_field fields name ≡ fields
same_without [] name h = refl
same_without (field ∷ fields) name h = by (bytes_eq name field.name) (same_without fields name) h
  where
    by : (b : Bool) → (length fields ≤ length (without_field fields name) → without_field fields name ≡ fields)
        → suc (length fields) ≤ length (if b then fields else field ∷ without_field fields name)
        → (if b then fields else field ∷ without_field fields name) ≡ field ∷ fields
    by true rest h = absurd (omega (arith, h))
    by false rest h = ap (λ (fs : List Field). field ∷ fs) (rest (omega (arith, h)))

same_without_fields : (fields : List Field) (names : List (List ℕ)) → length fields ≤ length (without_fields fields names) → without_fields fields names ≡ fields
same_without_fields fields [] h = refl
same_without_fields fields (name ∷ names) h =
    let more = length-without_fields (without_field fields name) names in
    let same : without_field fields name ≡ fields = same_without fields name (omega (arith, h, more.at_least)) in
    ap (λ (fs : List Field). without_fields fs names) same
    ∙ same_without_fields fields names (subst (λ (fs : List Field). length fields ≤ length (without_fields fs names)) same h)

pub none_gone : (held : List Field) (names : List (List ℕ)) → length held - length (without_fields held names) ≡ 0 → without_fields held names ≡ held
none_gone held names h = same_without_fields held names (omega (arith, h))

pub none_done : (held rest : List Field) (words : List (List ℕ)) → rest ≡ without_fields held (drop 2 words) → length held - length rest ≡ 0 → remove_fields held words ≡ answers (reply.Int (pos 0))
none_done held rest words e h = rw (← e) (rw h refl)

pub no_count : (n : ℕ) (count : ℤ) → count ≡ pos n → of_z w64 count ≡ 0 → n ≡ 0
no_count n count e f = ap (of_z w64) (sym e) ∙ f

pub first_left : (notes : List Note) (last : Option Note) (first second : Note) → first ∷ second ∷ [] ≡ notes ++ option_to_list last → (last ≡ None → first ∷ second ∷ [] ≡ []) → notes ≡ first ∷ []
first_left notes None first second e f = let g = f refl in cc
first_left [] (Some last) first second e f = cc
first_left (note ∷ []) (Some last) first second e f = cc
first_left (note ∷ other ∷ more) (Some last) first second e f =
    let size = ap length e in absurd (omega (arith, size, length-append more (last ∷ [])))
