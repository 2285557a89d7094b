-- serves clause `ok` of HashBody::put_all
use Rattle.std.proofs.Common.{◌≡◌, List, [], ◌∷◌, length, drop, refl, sym, ap, ◌∙◌, arith}
use Rattle.core_types.specs.declared.field.Field.{Field}
use Rattle.core_types.specs.Fields.{with_fields}
use Rattle.core_types.specs.HashEntries.{fields_of}
use Rattle.core_types.proofs.field_map.put_all.Goals as goal

-- a list that is its own rest is empty
none_left : (items rest : List Field) → items ≡ rest → rest ≡ drop 1 items → items ≡ []
none_left [] rest same dropped = refl
none_left (item ∷ items) rest same dropped = absurd (omega (arith, ap length (same ∙ dropped)))

pub returns : goal.returns
returns c =
    let left = c.loop-field.more.items in
    let rest = c.pop_front.new.self.items in
    let same : left ≡ rest = c.in_default.ensures.items in
    let none : left ≡ [] = none_left left rest same c.pop_front.ensures.rest in
    record { ok = ap (λ more. with_fields (fields_of c.loop-field.fields.entries) more) (sym none) ∙ c.loop-field.invariant.0; err = tt }
