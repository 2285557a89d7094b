use Rattle.std.proofs.Common.{◌≡◌, ◌≢◌, ◌∙◌, ◌<◌, ◌^◌, get_or, length, sym, arith, pos, FitsSigned}
use Rattle.std.specs.Int.{w64}
use Rattle.std.proofs.lemmas.List.{take_rest}
use borrow.Author.Tests.{ltb-true}
use Rattle.byte_text.proofs.ReadNumbers.{no_first, ok_read, unsigned_none, unsigned_read, signed_none, signed_read, none_left}
use Rattle.byte_text.proofs.number.read_i64.Goals as goal
use Rattle.byte_text.proofs.number.read_i64.Goals.{in_default-via-then-text-lt1, in_default-via-else-text-lt1+in_default-1}

pub returns-in_err-read_u64-in-45-clause-value : goal.returns-in_err-read_u64-in-45-clause-value
returns-in_err-read_u64-in-45-clause-value c =
    let text = c.args.text.now in
    let sign : get_or text 0 0 ≡ 45 = omega arith in
    c.from_residual.ensures ∙ sym (signed_none text sign (λ n small e. c.in_err-read_u64-in-45.ensures.none n small (take_rest text 1 ∙ e)))

pub returns-in_err-read_u64-in-45-clause-none : goal.returns-in_err-read_u64-in-45-clause-none
returns-in_err-read_u64-in-45-clause-none c =
    none_left c.args.text.now c.from_residual.result (returns-in_err-read_u64-in-45-clause-value c)

pub returns-in_err-read_u64-in_default-clause-value : goal.returns-in_err-read_u64-in_default-clause-value
returns-in_err-read_u64-in_default-clause-value c =
    let text = c.args.text.now in
    let none = c.in_err-read_u64-in_default.ensures.none in
    let no_sign : get_or text 0 0 ≢ 45 = elim c.in_default.branch [ in_default-via-then-text-lt1 w ↦ no_first text (omega (arith, ltb-true)) | in_default-via-else-text-lt1+in_default-1 w ↦ λ e. omega arith ] in
    c.from_residual-in_err-read_u64-in_default.ensures ∙ sym (unsigned_none text no_sign none)

pub returns-in_ok-read_u64-in-45-clause-value : goal.returns-in_ok-read_u64-in-45-clause-value
returns-in_ok-read_u64-in-45-clause-value c =
    let text = c.args.text.now in
    let size = c.in_ok-read_u64-in-45.field-0 in
    let sign : get_or text 0 0 ≡ 45 = omega arith in
    let some : 0 < length text = omega arith in
    let small : size < 2 ^ 64 = omega arith in
    signed_read text size c.below_zero.result small some sign (sym (take_rest text 1) ∙ c.in_ok-read_u64-in-45.ensures.text) c.below_zero.ensures

pub returns-in_ok-read_u64-in-45-clause-none : goal.returns-in_ok-read_u64-in-45-clause-none
returns-in_ok-read_u64-in-45-clause-none c =
    none_left c.args.text.now c.below_zero.result (returns-in_ok-read_u64-in-45-clause-value c)

pub returns-in_ok-read_u64-in_default-clause-value : goal.returns-in_ok-read_u64-in_default-clause-value
returns-in_ok-read_u64-in_default-clause-value c =
    let text = c.args.text.now in
    let n = c.in_ok-read_u64-in_default.field-0 in
    let small : n < 2 ^ 64 = omega arith in
    unsigned_read text n c.ok.result small c.in_ok-read_u64-in_default.ensures.text (ok_read c.ok.result c.try_from.result (FitsSigned w64 (pos n)) (pos n) c.ok.ensures.value c.try_from.ensures)

pub returns-in_ok-read_u64-in_default-clause-none : goal.returns-in_ok-read_u64-in_default-clause-none
returns-in_ok-read_u64-in_default-clause-none c =
    none_left c.args.text.now c.ok.result (returns-in_ok-read_u64-in_default-clause-value c)
