-- Serves clauses entry and removed of Table::remove, and the invariant after it.
use Rattle.std.proofs.Common.{◌≤◌, subst, sym, ap, ◌∙◌, arith}
use Rattle.std.specs.Option.{option_map}
use Rattle.core_types.specs.Keys.{entry_at, key_count, without}
use Rattle.key_store.proofs.Counts.{count_taken}
use Rattle.key_store.specs.inner.Halves.{both, AllShort, AllLong}
use Rattle.key_store.proofs.Halves.{long_at, long_taken, short_at, short_taken, take_long, take_short}
use Rattle.key_store.proofs.table.Table.remove.Goals.{in-Some, in-None, in-Some-remove, in-None-remove}
use Rattle.key_store.proofs.table.Table.remove.Goals as goal

pub invariant_of-self : goal.invariant_of-self
invariant_of-self g c =
    record {
      shorts = subst AllShort (sym c.remove.ensures.removed) (short_taken c.self.inside.short c.new.result c.self.invariant.shorts);
      longs = c.self.invariant.longs;
      few = (
          let less = subst (λ k. key_count k ≤ key_count c.self.inside.short) (sym c.remove.ensures.removed) (count_taken c.self.inside.short c.new.result) in
          let few = c.self.invariant.few in
          omega (arith, less, few)
          );
    }

pub invariant_of-self-else-is_short : goal.invariant_of-self-else-is_short
invariant_of-self-else-is_short g c =
    record {
      shorts = c.self.invariant.shorts;
      longs = subst AllLong (sym c.remove-else-is_short.ensures.removed) (long_taken c.self.inside.long c.args.key.now c.self.invariant.longs);
      few = (
          let less = subst (λ k. key_count k ≤ key_count c.self.inside.long) (sym c.remove-else-is_short.ensures.removed) (count_taken c.self.inside.long c.args.key.now) in
          let few = c.self.invariant.few in
          omega (arith, less, few)
          );
    }

pub returns-after-remove-clause-entry : goal.returns-after-remove-clause-entry
returns-after-remove-clause-entry g c =
    let t = c.self.inside in
    let key = c.args.key.now in
    let found = ap (entry_at t.short) c.new.ensures ∙ sym (short_at t.short t.long key c.self.invariant.longs (sym c.is_short.ensures ∙ c.if-is_short.true)) ∙ ap (λ keys. entry_at keys key) c.self.view_is in
    elim c.match-remove.branch [
      | in-Some w ↦ rw w.result-is (ap (option_map (λ p. p.1)) (sym w.in-Some.is) ∙ c.remove.ensures.entry ∙ found)
      | in-None w ↦ rw w.result-is (ap (option_map (λ p. p.1)) (sym w.in-None.is) ∙ c.remove.ensures.entry ∙ found)
    ]

pub returns-after-remove-clause-removed : goal.returns-after-remove-clause-removed
returns-after-remove-clause-removed g c =
    let t = c.self.inside in
    let key = c.args.key.now in
    ap (λ s. both s t.long) (c.remove.ensures.removed ∙ ap (without t.short) c.new.ensures)
    ∙ take_short t.short t.long key c.self.invariant.longs (sym c.is_short.ensures ∙ c.if-is_short.true) ∙ ap (λ keys. without keys key) c.self.view_is

pub returns-after-remove-2-clause-entry : goal.returns-after-remove-2-clause-entry
returns-after-remove-2-clause-entry g c =
    let t = c.self.inside in
    let key = c.args.key.now in
    let found = sym (long_at t.short t.long key c.self.invariant.shorts (sym c.is_short.ensures ∙ c.if-is_short.false)) ∙ ap (λ keys. entry_at keys key) c.self.view_is in
    elim c.match-remove-2.branch [
      | in-Some-remove w ↦ rw w.result-is (ap (option_map (λ p. p.1)) (sym w.in-Some-remove.is) ∙ c.remove-else-is_short.ensures.entry ∙ found)
      | in-None-remove w ↦ rw w.result-is (ap (option_map (λ p. p.1)) (sym w.in-None-remove.is) ∙ c.remove-else-is_short.ensures.entry ∙ found)
    ]

pub returns-after-remove-2-clause-removed : goal.returns-after-remove-2-clause-removed
returns-after-remove-2-clause-removed g c =
    let t = c.self.inside in
    let key = c.args.key.now in
    ap (both t.short) c.remove-else-is_short.ensures.removed
    ∙ take_long t.short t.long key c.self.invariant.shorts (sym c.is_short.ensures ∙ c.if-is_short.false) ∙ ap (λ keys. without keys key) c.self.view_is
