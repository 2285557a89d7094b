use Rattle.std.proofs.Common.{arith}
use Rattle.resp_codec.proofs.Arrays.{HasRead-open, HasRead-bad, HasRead-whole}
use Rattle.resp_codec.proofs.array.read_words.Goals as goal

pub returns-in-Open : goal.returns-in-Open
returns-in-Open c =
    let judged = rw (c.in-Open.is, c.split_at.ensures.back) at c.read_word.ensures in
    HasRead-open c.args.bytes.now c.args.count c.loop-rest.words c.loop-rest.place c.loop-rest.invariant (omega arith) judged

pub returns-in-Bad : goal.returns-in-Bad
returns-in-Bad c =
    let judged = rw (c.in-Bad.is, c.split_at.ensures.back) at c.read_word.ensures in
    HasRead-bad c.args.bytes.now c.args.count c.loop-rest.words c.loop-rest.place c.in-Bad.kind c.in-Bad.at c.loop-rest.invariant (omega arith) judged

pub returns : goal.returns
returns c = HasRead-whole c.args.bytes.now c.args.count c.loop-rest.words c.loop-rest.place c.loop-rest.invariant c.requires.some (omega arith)
