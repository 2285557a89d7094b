use Rattle.std.proofs.Common.{◌+◌, ◌≤◌, length, ap, arith}
use Rattle.std.proofs.lemmas.List.{take_all}
use Rattle.resp_codec.specs.inner.Reading.{seen}
use Rattle.resp_codec.proofs.Passing.{Waits-here}
use Rattle.resp_codec.proofs.ReaderSteps.{long_line}
use Rattle.resp_codec.proofs.RequestDue.{unfinished_line}
use Rattle.resp_codec.proofs.reading.Reading.read_line.Goals as goal

pub refuse-requires-clause-bad : goal.refuse-requires-clause-bad
refuse-requires-clause-bad c =
    let s = c.args.self.now in
    let due = rw c.requires.stage at s.due in
    let read_is = rw c.requires.stage at s.read_is in
    let searched = rw c.if-end-eq-FARTHEST.true at c.find-end.ensures.end in
    rw (c.requires.stage, due.1, c.find-end.ensures.same) (long_line s.input (s.read + 0) c.requires.no_array searched (omega arith))

pub returns-then-end-len-clause-ok : goal.returns-then-end-len-clause-ok
returns-then-end-len-clause-ok c =
    let s = c.args.self.now in
    let due = rw c.requires.stage at s.due in
    let searched = c.find-end.ensures.end.searched in
    let all : length s.input ≤ c.find-end.result = omega (arith, c.if-end-len.true, c.len.ensures.length, ap length c.find-end.ensures.same) in
    let wanted = unfinished_line s.input c.requires.no_array (omega (arith, searched.near)) (rw (take_all c.find-end.result s.input all) at searched.none) in
    rw c.find-end.ensures.same (Waits-here (seen s) (rw (c.requires.stage, due.1) wanted))
