-- Serves clause does of add.
use Rattle.std.proofs.Common.{◌≡◌, ◌∙◌, sym, ap, refl, subst, Some, FitsSigned, ℤ}
use Rattle.std.specs.Prelude.{◌+ℤ◌}
use Rattle.std.specs.Int.{w64}
use Rattle.std.specs.Fmt.{signed_decimal}
use Rattle.std.proofs.Math.Facts.{to_z-of_z}
use Rattle.byte_text.proofs.Decimals.{number_in-fits, number_held-fits}
use Rattle.sequences.specs.Words.{word}
use Rattle.byte_text.specs.Number.{number_in, number_held}
use Rattle.core_types.specs.Fields.{field_value, with_field}
use Rattle.hash_cmds.specs.Counting.{add, becomes_number}
use Rattle.hash_cmds.proofs.Outcomes.{does_by, sum_done}
use Rattle.hash_cmds.proofs.counting.add.Goals as goal

pub returns-clause-does : goal.returns-clause-does
returns-clause-does c =
    let fields = c.args.hash.now in
    let words = c.args.words.now in
    let held = number_held (field_value fields (word 2 words)) in
    let n = c.in-Some.held in
    let sum = c.in-Some-checked_add.sum in
    let amount = c.number_in.result in
    let named : c.word.result.now ≡ word 2 words = c.word.ensures.word in
    let number_at : amount ≡ number_in (word 3 words) = c.number_in.ensures.value ∙ ap number_in c.word-2.ensures.word in
    let known : held ≡ Some n =
    sym (c.number_held.ensures ∙ ap (λ w. number_held (field_value fields w)) named) ∙ c.in-Some.is in
    let whole = number_held-fits (field_value fields (word 2 words)) n known in
    let fits : FitsSigned w64 amount = subst (λ (k : ℤ). FitsSigned w64 k) (sym number_at) (number_in-fits (word 3 words)) in
    let summed = rw (to_z-of_z whole, to_z-of_z fits) at c.in-Some-checked_add.ensures in
    let fits_sum : FitsSigned w64 sum = subst (λ (k : ℤ). FitsSigned w64 k) (sym summed.1) summed.0 in
    let made = rw (to_z-of_z fits_sum) at c.in_ok-outcome.ensures in
    let value : c.in_ok-value.value ≡ signed_decimal sum =
    c.in_ok-value.ensures.bytes ∙ c.as_slice.ensures.bytes ∙ c.i64_text.ensures.text ∙ ap signed_decimal (to_z-of_z fits_sum) in
    does_by c.in_ok-outcome.outcome _ (Some fields) (Some c.put.new.self) (add fields words)
    (becomes_number fields sum words)
    made
    (sym (sum_done fields (number_in (word 3 words)) held n sum words known
    (subst (λ (k : ℤ). FitsSigned w64 (n +ℤ k)) number_at summed.0)
    (summed.1 ∙ ap (λ (k : ℤ). n +ℤ k) number_at)))
    record {
      body = ap Some (c.in_ok-put.ensures.ok
          ∙ (λ i. with_field fields (record { name = c.word-3.ensures.word i; value = value i })));
      reply = refl;
      effects = refl;
      notes = refl;
    }
