use Rattle.std.proofs.Common.{◌≡◌, Some, ◌∙◌, sym, arith}
use Rattle.byte_text.proofs.Decimals.{u64_of-is}
use Rattle.resp_codec.proofs.number.read_length.Goals as goal

pub returns-then-length-gt-LONGEST_WORD-clause-none : goal.returns-then-length-gt-LONGEST_WORD-clause-none
returns-then-length-gt-LONGEST_WORD-clause-none c n few e =
    let same : Some n ≡ Some c.in_ok-length.length = sym (u64_of-is c.args.text.now n (omega arith) e) ∙ sym c.in_ok-length.ensures.value in
    let is : n ≡ c.in_ok-length.length = cc in
    omega (arith, is, c.if-length-gt-LONGEST_WORD.true)
