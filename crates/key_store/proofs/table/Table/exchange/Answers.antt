-- Serves clause after of Table::exchange.
use Rattle.std.proofs.Common.{◌≡◌, subst, ap, ◌∙◌}
use Rattle.std.specs.Option.{OnSome}
use Rattle.core_types.specs.Keys.{with_entry}
use Rattle.key_store.proofs.table.Table.exchange.Goals as goal

pub returns-clause-after : goal.returns-clause-after
returns-clause-after g c =
    let lent = c.get_mut in
    let left = c.exchange.new.self in
    subst (λ o. OnSome o (lent.follows.lender left ≡ with_entry c.args.self.now c.args.key.now left)) c.in-Some.is (lent.follows.holds left)
    ∙ ap (with_entry c.args.self.now c.args.key.now) c.exchange.ensures.after
