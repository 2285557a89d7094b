use Rattle.std.proofs.Common.{[]}
use Rattle.resp_codec.specs.inner.Reading.{seen}
use Rattle.resp_codec.proofs.Passing.{Waits-here}
use Rattle.resp_codec.proofs.RequestDue.{due_count}
use Rattle.resp_codec.proofs.reading.Reading.read_count.Goals as goal

pub returns-in-Open : goal.returns-in-Open
returns-in-Open c =
    let s = c.args.self.now in
    let due = rw c.requires.stage at s.due in
    let wanted = c.in-Open.ensures.judged [] (due_count s.input c.requires.mark) in
    rw c.in-Open.ensures.same (Waits-here (seen s) (rw (c.requires.stage, due.1) wanted))

pub refuse-requires-clause-bad : goal.refuse-requires-clause-bad
refuse-requires-clause-bad c =
    let s = c.args.self.now in
    let due = rw c.requires.stage at s.due in
    let read_is = rw c.requires.stage at s.read_is in
    rw (c.requires.stage, due.1, c.in-Bad.ensures.same, read_is)
    (c.in-Bad.ensures.judged.1 [] (due_count s.input c.requires.mark))
