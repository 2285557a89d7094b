use Rattle.std.proofs.Common.{◌+◌, ◌∙◌, ◌++◌, ap, drop, arith}
use Rattle.std.specs.List.{flat_map}
use Rattle.std.proofs.lemmas.List.{take_rest}
use Rattle.resp_codec.specs.Marks.{header}
use Rattle.resp_codec.specs.Spelling.{bulk}
use Rattle.resp_codec.proofs.ReaderSteps.{bad_length, IsBegun-words}
use Rattle.resp_codec.proofs.reading.Reading.take_length.Goals as goal

pub refuse-requires-clause-bad : goal.refuse-requires-clause-bad
refuse-requires-clause-bad c =
    let s = c.args.self.now in
    let due = rw c.requires.stage at s.due in
    let read_is = rw c.requires.stage at s.read_is in
    rw (c.requires.stage, due.1)
    (bad_length (header 42 s.count ++ flat_map bulk s.draft.words) s.input c.args.end (s.read + 0) (IsBegun-words s.count s.draft.words due.0) c.requires.mark c.requires.line
    (λ n small e. c.in_default.ensures.none n small (take_rest c.front.result.now 1 ∙ ap (λ bytes. drop 1 bytes) c.front.ensures.front ∙ e)) (omega arith))
