use Rattle.std.proofs.Common.{sym}
use Rattle.resp_codec.specs.inner.Reading.{seen}
use Rattle.resp_codec.proofs.Passing.{Waits-here}
use Rattle.resp_codec.proofs.RequestDue.{unfinished_request, line_due}
use Rattle.resp_codec.proofs.reading.Reading.read_request.Goals as goal

pub returns-in-None-clause-ok : goal.returns-in-None-clause-ok
returns-in-None-clause-ok c =
    let s = c.args.self.now in
    let due = rw c.requires at s.due in
    Waits-here (seen s) (rw (c.requires, due.1) (unfinished_request s.input (sym c.in-None.ensures.first)))

pub read_line-requires-clause-no_array : goal.read_line-requires-clause-no_array
read_line-requires-clause-no_array c = line_due c.args.self.now.input c.in-Some.field-0 (sym c.in-Some.ensures.first) c.in-Some.field-0-test.1

pub read_count-requires-clause-mark : goal.read_count-requires-clause-mark
read_count-requires-clause-mark c = sym (rw c.in-Some-eq42.field-0-test at c.in-Some-eq42.ensures.first)
