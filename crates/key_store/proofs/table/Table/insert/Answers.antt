-- Serves clauses old and ok of Table::insert, and the invariant after it.
use Rattle.std.proofs.Common.{◌+◌, ◌≤◌, subst, sym, ap, ◌∙◌, arith}
use Rattle.core_types.specs.Keys.{entry_at, key_count, with_entry}
use Rattle.key_store.proofs.Counts.{count_put, room_left}
use Rattle.key_store.specs.inner.Halves.{both, AllShort, AllLong}
use Rattle.key_store.proofs.Halves.{long_at, long_put, put_long, put_short, short_at, short_put}
use Rattle.key_store.proofs.table.Table.insert.Goals as goal

pub invariant_of-self : goal.invariant_of-self
invariant_of-self g c =
    let t = c.self.inside in
    record {
      shorts = subst AllShort (sym c.in-Ok.ensures.ok) (short_put t.short c.in-Here.key c.args.stored c.self.invariant.shorts c.in-Here.ensures.right);
      longs = c.self.invariant.longs;
      few = (
          let more = subst (λ k. key_count k ≤ key_count t.short + 1) (sym c.in-Ok.ensures.ok) (count_put t.short c.in-Here.key c.args.stored) in
          let room = room_left t.short t.long c.args.self.now c.len.result c.self.invariant c.self.view_is c.len.ensures.count c.if-len-eq9223372036854775807.false in
          omega (arith, more, room)
          );
    }

pub returns-in-Ok-clause-old : goal.returns-in-Ok-clause-old
returns-in-Ok-clause-old g c =
    let t = c.self.inside in
    c.in-Ok.ensures.old ∙ sym (short_at t.short t.long c.in-Here.key c.self.invariant.longs c.in-Here.ensures.right)
    ∙ (λ i. entry_at (c.self.view_is i) (c.in-Here.ensures.bytes i))

pub returns-in-Ok-clause-ok : goal.returns-in-Ok-clause-ok
returns-in-Ok-clause-ok g c =
    let t = c.self.inside in
    ap (λ s. both s t.long) c.in-Ok.ensures.ok ∙ put_short t.short t.long c.in-Here.key c.args.stored
    ∙ (λ i. with_entry (c.self.view_is i) (c.in-Here.ensures.bytes i) c.args.stored)

pub invariant_of-self-in-Ok-insert : goal.invariant_of-self-in-Ok-insert
invariant_of-self-in-Ok-insert g c =
    let t = c.self.inside in
    record {
      shorts = c.self.invariant.shorts;
      longs = subst AllLong (sym c.in-Ok-insert.ensures.ok) (long_put t.long c.in-Away.key.items c.args.stored c.self.invariant.longs c.in-Away.ensures.right);
      few = (
          let more = subst (λ k. key_count k ≤ key_count t.long + 1) (sym c.in-Ok-insert.ensures.ok) (count_put t.long c.in-Away.key.items c.args.stored) in
          let room = room_left t.short t.long c.args.self.now c.len.result c.self.invariant c.self.view_is c.len.ensures.count c.if-len-eq9223372036854775807.false in
          omega (arith, more, room)
          );
    }

pub returns-in-Ok-insert-clause-old : goal.returns-in-Ok-insert-clause-old
returns-in-Ok-insert-clause-old g c =
    let t = c.self.inside in
    c.in-Ok-insert.ensures.old ∙ sym (long_at t.short t.long c.in-Away.key.items c.self.invariant.shorts c.in-Away.ensures.right)
    ∙ (λ i. entry_at (c.self.view_is i) (c.in-Away.ensures.bytes i))

pub returns-in-Ok-insert-clause-ok : goal.returns-in-Ok-insert-clause-ok
returns-in-Ok-insert-clause-ok g c =
    let t = c.self.inside in
    ap (both t.short) c.in-Ok-insert.ensures.ok ∙ put_long t.short t.long c.in-Away.key.items c.args.stored c.self.invariant.shorts c.in-Away.ensures.right
    ∙ (λ i. with_entry (c.self.view_is i) (c.in-Away.ensures.bytes i) c.args.stored)
