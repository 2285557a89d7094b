use Rattle.std.proofs.Common.{◌≡◌, ◌+◌, ◌<◌, length, [], sym, ◌∙◌, arith}
use Rattle.std.proofs.lemmas.Bool.{eqb-true, eqb-false}
use Rattle.std.proofs.lemmas.List.{length-drop, nil_from_length}
use Rattle.resp_codec.proofs.ReaderSteps.{bad_quote, skips_line, takes_line}
use Rattle.resp_codec.proofs.reading.Reading.take_line.Goals as goal

pub refuse-requires-clause-bad : goal.refuse-requires-clause-bad
refuse-requires-clause-bad c =
    let s = c.args.self.now in
    let due = rw c.requires.stage at s.due in
    let read_is = rw c.requires.stage at s.read_is in
    let found = rw c.front.ensures.front at c.in-Some.ensures in
    rw (c.requires.stage, due.1) (bad_quote s.input c.args.end c.in-Some.place (s.read + c.in-Some.place) c.requires.line found (omega arith))

pub returns-then-is_empty-clause-ok : goal.returns-then-is_empty-clause-ok
returns-then-is_empty-clause-ok c =
    let s = c.args.self.now in
    let due = rw c.requires.stage at s.due in
    let plain = rw c.front.ensures.front at c.in_default.ensures in
    let none : c.in_ok-words.words ≡ [] = nil_from_length _ (eqb-true (length c.in_ok-words.words) 0 (sym c.if-is_empty.ensures.empty)) in
    let words = rw c.front-2.ensures.front at c.in_ok-words.ensures in
    rw (c.requires.stage, due.1, c.skip.ensures.rest)
    (skips_line s.passed c.args.end s.input c.requires.line plain (sym none ∙ words), omega (arith, length-drop (c.args.end + 1) s.input, c.requires.line.within))

pub returns-clause-ok : goal.returns-clause-ok
returns-clause-ok c =
    let s = c.args.self.now in
    let due = rw c.requires.stage at s.due in
    let plain = rw c.front.ensures.front at c.in_default.ensures in
    let some : 0 < length c.in_ok-words.words = omega (arith, eqb-false (length c.in_ok-words.words) 0 (sym c.if-is_empty.ensures.empty)) in
    let words = rw c.front-2.ensures.front at c.in_ok-words.ensures in
    rw (c.requires.stage, due.1, c.skip.ensures.rest) (takes_line s.passed c.args.end s.input c.in_ok-words.words c.requires.line plain words some)
