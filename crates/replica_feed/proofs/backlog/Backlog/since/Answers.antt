use Rattle.std.proofs.Common.{arith}
use Rattle.replica_feed.proofs.Kept.{frame_writable}
use Rattle.replica_feed.proofs.backlog.Backlog.since.Goals as goal

pub returns-clause-writable : goal.returns-clause-writable
returns-clause-writable c =
    frame_writable _ c.args.self.now c.args.from c.in_ok-frame_from.field-0 c.self.view_is c.self.invariant.0 (omega (arith, c.if-from-self-2.false)) c.in_ok-frame_from.ensures
