-- Serves the clauses of next.
use Rattle.std.proofs.Common.{◌∙◌}
use Rattle.resp_codec.proofs.Passing.{SkipsOnly-join}
use Rattle.replica_feed.specs.inner.Placing.{seen}
use Rattle.replica_feed.proofs.Placing.{comes_join, on_err, waits_all}
use Rattle.replica_feed.proofs.requests.Requests.next.Goals as goal

pub returns-in_err-came-clause-err : goal.returns-in_err-came-clause-err
returns-in_err-came-clause-err c =
    on_err c.from_residual.result
    (SkipsOnly-join (seen c.args.self.now) (seen c.loop-came.self) (seen c.look.new.self) c.loop-came.invariant.1 c.in_err-came.ensures.err)

pub returns-in-Some-clause-came : goal.returns-in-Some-clause-came
returns-in-Some-clause-came c =
    comes_join (seen c.args.self.now) (seen c.loop-came.self) (seen c.look.new.self) c.in-Some.came c.loop-came.invariant.1
    (rw c.in-Some.is at c.in_ok-came.ensures.looks)

pub returns-then-self-len-clause-came : goal.returns-then-self-len-clause-came
returns-then-self-len-clause-came c =
    let looks = rw c.in_default.is at c.in_ok-came.ensures.looks in
    waits_all (seen c.args.self.now) c.look.new.self
    (SkipsOnly-join (seen c.args.self.now) (seen c.loop-came.self) (seen c.look.new.self) c.loop-came.invariant.1 looks.0) looks.1
    (c.if-self-len.true ∙ c.len.ensures.length)

pub loop-came-preserved : goal.loop-came-preserved
loop-came-preserved c =
    let looks = rw c.in_default.is at c.in_ok-came.ensures.looks in (
      c.in_ok-hand_on.ensures.placed,
      rw c.in_ok-hand_on.ensures.same
          (SkipsOnly-join (seen c.args.self.now) (seen c.loop-came.self) (seen c.look.new.self) c.loop-came.invariant.1 looks.0),
    )

pub returns-in_err-hand_on-clause-err : goal.returns-in_err-hand_on-clause-err
returns-in_err-hand_on-clause-err c =
    let looks = rw c.in_default.is at c.in_ok-came.ensures.looks in
    on_err c.from_residual-in_err-hand_on.result
    (rw c.in_err-hand_on.ensures.err (SkipsOnly-join (seen c.args.self.now) (seen c.loop-came.self) (seen c.look.new.self) c.loop-came.invariant.1 looks.0))
