use Rattle.std.proofs.Common.{◌≡◌, ◌≤◌, ◌++◌, ◌∷◌, [], length, ap, arith}
use Rattle.std.proofs.lemmas.List.{length-drop}
use Rattle.resp_codec.proofs.Passing.{SkipsOnly-none}
use Rattle.resp_codec.proofs.ReaderSteps.{begun-gathered, takes_gathered}
use Rattle.resp_codec.proofs.reading.Reading.take_word.Goals as goal

pub returns-then-len-self-clause-ok : goal.returns-then-len-self-clause-ok
returns-then-len-self-clause-ok c =
    let s = c.args.self.now in
    let parted = begun-gathered s.count c.args.size s.draft.words s.draft.tail s.input c.requires.all c.requires.whole in
    rw (c.requires.stage, c.in_ok-end_word.ensures.ok, c.skip.ensures.rest, ← parted)
    (SkipsOnly-none _, omega (arith, length-drop 2 s.input, c.requires.whole.0))

pub returns-clause-ok : goal.returns-clause-ok
returns-clause-ok c =
    let s = c.args.self.now in
    let due = rw c.requires.stage at s.due in
    let read_is = rw c.requires.stage at s.read_is in
    let words_are : c.end_word.new.self.words ≡ s.draft.words ++ s.draft.tail ∷ [] = ap (λ d. d.words) c.in_ok-end_word.ensures.ok in
    let whole : s.count ≤ length (s.draft.words ++ s.draft.tail ∷ []) = omega (arith, c.if-len-self.false, c.len.ensures.length, ap length words_are) in
    rw (c.requires.stage, c.take.ensures.words, c.take.ensures.left, c.in_ok-end_word.ensures.ok, c.skip.ensures.rest)
    (takes_gathered s.passed s.read s.count c.args.size s.draft.words s.draft.tail s.input due.0 due.1 c.requires.all c.requires.whole read_is whole)
