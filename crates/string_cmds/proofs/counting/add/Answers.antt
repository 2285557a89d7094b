-- Serves clause does of add.
use Rattle.std.proofs.Common.{◌≡◌, ◌∙◌, sym, ap, refl, subst, Some, FitsSigned, ℤ}
use Rattle.std.specs.Int.{w64}
use Rattle.std.specs.Fmt.{signed_decimal}
use Rattle.std.proofs.Math.Facts.{to_z-of_z}
use Rattle.byte_text.specs.Number.{i64_of}
use Rattle.byte_text.proofs.Decimals.{i64_of-only}
use Rattle.string_cmds.specs.Counting.{adds, becomes_number}
use Rattle.string_cmds.proofs.Outcomes.{does_by, sum_done}
use Rattle.string_cmds.proofs.counting.add.Goals as goal

pub returns-clause-does : goal.returns-clause-does
returns-clause-does c =
    let held = c.args.old.now in
    let words = c.args.words.now in
    let amount = c.in-Ok.amount in
    let sum = c.in-Some-checked_add.sum in
    let same : amount ≡ c.args.amount = c.in-Ok.ensures.1 ∙ to_z-of_z c.ranges.amount in
    let fits : FitsSigned w64 amount = subst (λ (n : ℤ). FitsSigned w64 n) (sym c.in-Ok.ensures.1) c.in-Ok.ensures.0 in
    let number : i64_of held ≡ Some c.in-Some.held = cc in
    let whole : FitsSigned w64 c.in-Some.held = (i64_of-only held c.in-Some.held number).0 in
    let summed = rw (to_z-of_z whole, to_z-of_z fits) at c.in-Some-checked_add.ensures in
    let fits_sum : FitsSigned w64 sum = subst (λ (n : ℤ). FitsSigned w64 n) (sym summed.1) summed.0 in
    let made = rw (to_z-of_z fits_sum, to_z-of_z fits) at c.in_ok-outcome.ensures.outcome in
    does_by c.in_ok-outcome.outcome _ (Some held) (Some c.assign.new.self) (adds c.args.amount (i64_of held) words)
    (becomes_number sum amount words)
    made
    (sym (sum_done amount (i64_of held) c.in-Some.held sum words number fits summed.0 summed.1)
    ∙ ap (λ n. adds n (i64_of held) words) same)
    record {
      body = ap Some (c.in_ok-assign.ensures.ok ∙ c.as_slice-2.ensures.bytes ∙ c.i64_text.ensures.text ∙ ap signed_decimal (to_z-of_z fits_sum));
      reply = refl;
      effects = refl;
      notes = refl;
    }
