use Rattle.std.proofs.Common.{◌+◌, ◌++◌, sym, arith}
use Rattle.std.specs.List.{flat_map}
use Rattle.resp_codec.specs.Marks.{header}
use Rattle.resp_codec.specs.Spelling.{bulk}
use Rattle.resp_codec.specs.inner.Reading.{seen}
use Rattle.resp_codec.proofs.Passing.{Waits-here}
use Rattle.resp_codec.proofs.ReaderSteps.{bad_mark, due_length, unfinished_length, IsBegun-words}
use Rattle.resp_codec.proofs.reading.Reading.read_length.Goals as goal

pub returns-in-None : goal.returns-in-None
returns-in-None c =
    let s = c.args.self.now in
    let due = rw c.requires at s.due in
    Waits-here (seen s) (rw (c.requires, due.1) (unfinished_length (header 42 s.count ++ flat_map bulk s.draft.words) s.input (IsBegun-words s.count s.draft.words due.0) (sym c.in-None.ensures.first)))

pub refuse-requires-clause-bad : goal.refuse-requires-clause-bad
refuse-requires-clause-bad c =
    let s = c.args.self.now in
    let due = rw c.requires at s.due in
    let read_is = rw c.requires at s.read_is in
    rw (c.requires, due.1)
    (bad_mark (header 42 s.count ++ flat_map bulk s.draft.words) s.input c.in-Some.byte (s.read + 0) (IsBegun-words s.count s.draft.words due.0) (sym c.in-Some.ensures.first) c.in-Some.byte-test.1 (omega arith))

pub refuse-requires-in-Bad-clause-bad : goal.refuse-requires-in-Bad-clause-bad
refuse-requires-in-Bad-clause-bad c =
    let s = c.args.self.now in
    let before = header 42 s.count ++ flat_map bulk s.draft.words in
    let due = rw c.requires at s.due in
    let read_is = rw c.requires at s.read_is in
    rw (c.requires, due.1, c.in-Bad.ensures.same, read_is)
    (c.in-Bad.ensures.judged.1 before (due_length before s.input (IsBegun-words s.count s.draft.words due.0) (sym (rw c.in-Some-eq36.field-0-test at c.in-Some-eq36.ensures.first))))

pub returns-in-Open : goal.returns-in-Open
returns-in-Open c =
    let s = c.args.self.now in
    let before = header 42 s.count ++ flat_map bulk s.draft.words in
    let due = rw c.requires at s.due in
    let wanted = c.in-Open.ensures.judged before (due_length before s.input (IsBegun-words s.count s.draft.words due.0) (sym (rw c.in-Some-eq36.field-0-test at c.in-Some-eq36.ensures.first))) in
    rw c.in-Open.ensures.same (Waits-here (seen s) (rw (c.requires, due.1) wanted))
