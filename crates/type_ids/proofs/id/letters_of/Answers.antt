use Rattle.std.proofs.Common.{ap, ◌∙◌, refl}
use Rattle.type_ids.specs.Id.{letters_value}
use Rattle.type_ids.proofs.Ids.{all_set, nine_letters, nine_letters-at, nine_letters-value}
use Rattle.type_ids.proofs.id.letters_of.Goals as goal

pub loop-place-init : goal.loop-place-init
unfolding nine_letters
loop-place-init c = record { nine = refl; letters = refl }

pub returns-clause-letters : goal.returns-clause-letters
returns-clause-letters c =
    let all = all_set c.loop-place.text (nine_letters c.args.number) c.loop-place.place c.loop-place.rest c.loop-place-test.false c.loop-place.invariant.letters in
    rw all (nine_letters-at c.args.number)

pub returns-clause-value : goal.returns-clause-value
returns-clause-value c =
    let all = all_set c.loop-place.text (nine_letters c.args.number) c.loop-place.place c.loop-place.rest c.loop-place-test.false c.loop-place.invariant.letters in
    ap letters_value all ∙ nine_letters-value c.args.number c.requires
