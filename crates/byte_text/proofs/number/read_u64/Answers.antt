use Rattle.std.proofs.Common.{◌≡◌, ◌<◌, ◌≤◌, get_or, length, sym, inl, inr, arith}
use Rattle.std.proofs.lemmas.Bool.Decides.{nat_tests}
use Rattle.byte_text.proofs.ReadNumbers.{digits_read, empty_read, zero_read}
use Rattle.byte_text.proofs.number.read_u64.Goals as goal

pub returns-then-is_empty-clause-value : goal.returns-then-is_empty-clause-value
returns-then-is_empty-clause-value c =
    let empty : length c.args.text.now < 1 = grind (arith, nat_tests) in
    sym (empty_read c.args.text.now empty)

pub returns-then-text-gt1-clause-value : goal.returns-then-text-gt1-clause-value
returns-then-text-gt1-clause-value c =
    sym (zero_read c.args.text.now (omega arith) c.if-text-eq48.true)

pub returns-clause-value : goal.returns-clause-value
returns-clause-value c =
    let read = c.value_of_digits.ensures in
    let some : 0 < length c.args.text.now = grind (arith, nat_tests) in
    let front : get_or c.args.text.now 0 0 ≡ 48 → length c.args.text.now ≤ 1 = elim c.else-text-eq48.either [ inl both ↦ λ _. both.1 | inr other ↦ λ e. absurd (other e) ] in
    digits_read c.args.text.now c.value_of_digits.result some front read.fits read.digits read.value read.none
