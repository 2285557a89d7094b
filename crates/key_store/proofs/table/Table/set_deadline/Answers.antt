-- Serves clause set of Table::set_deadline.
use Rattle.key_store.proofs.Moves.{dated}
use Rattle.key_store.proofs.table.Table.set_deadline.Goals as goal

pub returns-in-Some-clause-set : goal.returns-in-Some-clause-set
returns-in-Some-clause-set g c =
    let lent = c.get_mut in
    let stored = c.set_deadline.new.self in
    dated c.args.self.now (lent.follows.lender stored) c.args.key.now c.args.at lent.result c.in-Some.stored stored c.in-Some.is lent.ensures.entry (lent.follows.holds stored) c.set_deadline.ensures.after
