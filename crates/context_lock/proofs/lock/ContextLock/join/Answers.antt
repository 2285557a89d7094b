-- serves clause joined of call ContextLock::join
use Rattle.std.proofs.Common.{rules}
use Rattle.context_lock.proofs.Rules.{joins}
use Rattle.context_lock.proofs.lock.ContextLock.join.Goals as goal

pub join_seat-requires : goal.join_seat-requires
join_seat-requires g c =
    let a = c.into_seat-seat.ensures.out in let b = c.into_seat.ensures.out in (
      search rules,
      search rules,
      b.0,
      search rules,
      joins g.S.Historic.history c.args.self.now.table.shared.key _ _ _ _ a.1.0 a.1.1 b.1.1,
    )
