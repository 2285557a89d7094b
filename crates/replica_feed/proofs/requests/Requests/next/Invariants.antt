use Rattle.std.proofs.Common.{length, ◌-◌}
use Rattle.resp_codec.specs.Stream.{SkipsOnly}
use Rattle.replica_feed.specs.inner.Placing.{seen, IsPlaced}
use Rattle.replica_feed.proofs.requests.Requests.next.Given as goal

abbrev pub invariant-loop-came : goal.invariant-loop-came
invariant-loop-came l = IsPlaced l.self × SkipsOnly (seen l.initial.self) (seen l.self)

abbrev pub decreases-loop-came : goal.decreases-loop-came
decreases-loop-came l = length l.self.waiting - l.self.place
