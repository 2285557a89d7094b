use Rattle.std.proofs.Common.{ℕ, List, subst, sym}
use Rattle.zip_lists.specs.BadPlace.{IsFirstBad}
use Rattle.zip_lists.specs.inner.Fronts.{IsBegunLength, IsLengthFront}
use Rattle.zip_lists.specs.declared.previous.Length.TheVariants as found
use Rattle.zip_lists.proofs.Walks.{length_open, end_there}
use Rattle.zip_lists.proofs.walk.Walk.step.Goals as goal

pub returns-in-End : goal.returns-in-End
returns-in-End c =
    let there = subst (λ (t : List ℕ). IsLengthFront t found.End) c.split_at.ensures.back
    c.in-End.ensures in
    (c.requires.walked, end_there c.args.bytes.now c.args.self.now.place there)

pub returns-in-Open : goal.returns-in-Open
returns-in-Open c =
    let begun = subst IsBegunLength c.split_at.ensures.back c.in-Open.ensures in
    subst (λ (k : ℕ). IsFirstBad c.args.bytes.now k) (sym c.unwrap_or.ensures)
    (length_open c.args.bytes.now c.args.self.now c.requires.walked c.requires.total begun)
