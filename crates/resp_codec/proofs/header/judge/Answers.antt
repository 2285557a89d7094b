use Rattle.resp_codec.proofs.ReaderHeaders.{Judges-endless, Judges-open, Judges-missing}
use Rattle.resp_codec.proofs.header.judge.Goals as goal

pub returns-then-end-eq-FARTHEST : goal.returns-then-end-eq-FARTHEST
returns-then-end-eq-FARTHEST c = Judges-endless c.args.bytes.now (rw c.if-end-eq-FARTHEST.true at c.requires)

pub returns-in-Open : goal.returns-in-Open
returns-in-Open c = Judges-open c.args.bytes.now c.args.end c.requires c.if-end-eq-FARTHEST.false c.in-Open.ensures

pub returns-in-Missing : goal.returns-in-Missing
returns-in-Missing c = Judges-missing c.args.bytes.now c.args.end c.in-Missing.place c.requires c.if-end-eq-FARTHEST.false c.in-Missing.ensures
