-- Serves clause entry of Table::get.
use Rattle.std.proofs.Common.{ap, sym, ◌∙◌}
use Rattle.core_types.specs.Keys.{entry_at}
use Rattle.key_store.proofs.Halves.{short_at, long_at}
use Rattle.key_store.proofs.table.Table.get.Goals as goal

pub returns-then-is_short : goal.returns-then-is_short
returns-then-is_short g c =
    let t = c.self.inside in
    let key = c.args.key.now in
    record {
      entry = c.get.ensures.entry ∙ ap (entry_at t.short) c.new.ensures
          ∙ sym (short_at t.short t.long key c.self.invariant.longs (sym c.is_short.ensures ∙ c.if-is_short.true))
          ∙ ap (λ keys. entry_at keys key) c.self.view_is;
    }

pub returns-else-is_short : goal.returns-else-is_short
returns-else-is_short g c =
    let t = c.self.inside in
    let key = c.args.key.now in
    record {
      entry = c.get-else-is_short.ensures.entry
          ∙ sym (long_at t.short t.long key c.self.invariant.shorts (sym c.is_short.ensures ∙ c.if-is_short.false))
          ∙ ap (λ keys. entry_at keys key) c.self.view_is;
    }
