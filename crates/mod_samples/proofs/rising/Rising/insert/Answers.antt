-- Serves the clauses of Rising::insert, and keeps the numbers in rising order.
use Rattle.std.proofs.Common.{◌≡◌, None, true, refl, sym, ap, ◌∙◌, subst}
use Rattle.std.specs.Int.{w64}
use Rattle.std.specs.List.{insert}
use Rattle.std.proofs.lemmas.Int.{to_z-of_z}
use Rattle.byte_text.proofs.Decimals.{fits}
use Rattle.mod_samples.specs.Rising.{IsPlaceOf, inserted, is_rising}
use Rattle.mod_samples.specs.inner.Rises.{inserted_rises, inserted_there}
use Rattle.mod_samples.proofs.rising.Rising.insert.Goals as goal

pub place_of-place-requires : goal.place_of-place-requires
place_of-place-requires c = rw c.deref.ensures.value c.self.invariant

made : (c : goal.In_ok-insert) → c.insert.new.self.items ≡ inserted c.args.n c.self.inside.numbers.items
made c =
    let ns = c.self.inside.numbers.items in let n = c.args.n in let place = c.place_of-place.result in
    let at : IsPlaceOf n ns place = subst (λ m. IsPlaceOf m ns place) (to_z-of_z w64 n c.ranges.n) (rw c.deref.ensures.value at c.place_of-place.ensures) in
    c.in_ok-insert.ensures.items ∙ ap (insert ns place) (to_z-of_z w64 n c.ranges.n) ∙ inserted_there n ns place at

rose : (c : goal.In_ok-insert) → is_rising c.insert.new.self.items ≡ true
rose c =
    subst (λ ns. is_rising ns ≡ true) (sym (made c))
    (inserted_rises None c.args.n c.self.inside.numbers.items c.self.invariant refl (fits c.args.n c.ranges.n))

stayed : (c : goal.After-from_residual) → is_rising c.insert.new.self.items ≡ true
stayed c = subst (λ ns. is_rising ns ≡ true) (sym c.in_err-insert.ensures.items) c.self.invariant

pub returns-clause-ok : goal.returns-clause-ok
returns-clause-ok c = made c ∙ ap (inserted c.args.n) c.self.view_is

pub returns-clause-rising : goal.returns-clause-rising
returns-clause-rising c = rose c

pub invariant_of-self : goal.invariant_of-self
invariant_of-self c = stayed c

pub invariant_of-self-2 : goal.invariant_of-self-2
invariant_of-self-2 c = rose c
