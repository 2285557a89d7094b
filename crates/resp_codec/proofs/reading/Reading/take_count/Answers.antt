use Rattle.std.proofs.Common.{◌+◌, ◌∙◌, ap, drop, arith}
use Rattle.std.proofs.lemmas.List.{take_rest, length-drop}
use Rattle.resp_codec.proofs.ReaderSteps.{skips_count}
use Rattle.resp_codec.proofs.RequestDue.{bad_count, skips_none}
use Rattle.resp_codec.proofs.reading.Reading.take_count.Goals as goal

pub returns-then-count-eq0 : goal.returns-then-count-eq0
returns-then-count-eq0 c =
    let s = c.args.self.now in
    let due = rw c.requires.stage at s.due in
    let none = rw (c.if-count-eq0.true, take_rest, c.front.ensures.front) at c.in-Some.ensures.some in
    rw (c.requires.stage, due.1, c.skip.ensures.rest)
    (skips_count s.passed c.args.end s.input c.requires.mark c.requires.line none, omega (arith, length-drop (c.args.end + 2) s.input, c.requires.line.within))

pub refuse-requires-clause-bad : goal.refuse-requires-clause-bad
refuse-requires-clause-bad c =
    let s = c.args.self.now in
    let due = rw c.requires.stage at s.due in
    let read_is = rw c.requires.stage at s.read_is in
    rw (c.requires.stage, due.1)
    (bad_count s.input c.args.end (s.read + 0) c.requires.mark c.requires.line
    (λ n fits few e. c.in_default.ensures.none n fits few (take_rest c.front.result.now 1 ∙ ap (λ bytes. drop 1 bytes) c.front.ensures.front ∙ e)) (omega arith))

pub returns : goal.returns
returns c =
    let s = c.args.self.now in
    let due = rw c.requires.stage at s.due in
    let count = rw (take_rest, c.front.ensures.front) at c.in-Some.ensures.some in
    rw (c.requires.stage, due.0, due.1, c.skip.ensures.rest)
    (skips_none s.passed c.in-Some.count c.args.end s.input c.requires.mark c.requires.line count c.if-count-eq0.false, omega (arith, length-drop (c.args.end + 2) s.input, c.requires.line.within))
