-- Serves clauses first and rest of Table::pop_first, and the invariant after it.
use Rattle.std.proofs.Common.{true, false, sym, ap, ◌∙◌, Some, arith}
use Rattle.std.specs.Option.{option_map}
use Rattle.core_types.specs.Keys.{without}
use Rattle.key_store.specs.inner.Halves.{both, comes_first}
use Rattle.key_store.proofs.Counts.{count_popped}
use Rattle.key_store.proofs.Halves.{take_long, take_short}
use Rattle.key_store.proofs.Merged.{both_first, first_long, first_short, long_popped, short_popped}
use Rattle.key_store.proofs.table.Table.pop_first.Goals.{in-Some, in-None, in-Some-pop_first, in-None-pop_first}
use Rattle.key_store.proofs.table.Table.pop_first.Goals as goal

pub invariant_of-self : goal.invariant_of-self
invariant_of-self g c =
    record {
      shorts = short_popped c.self.inside.short c.pop_first.new.self c.pop_first.result c.pop_first.ensures.rest c.self.invariant.shorts;
      longs = c.self.invariant.longs;
      few = (
          let less = count_popped (λ k. k) c.self.inside.short c.pop_first.new.self c.pop_first.result c.pop_first.ensures.rest in
          let few = c.self.invariant.few in
          omega (arith, less, few)
          );
    }

pub away-requires : goal.away-requires
away-requires g c = first_long c.self.inside.long c.in-Some-pop_first.key.items c.in-Some-pop_first.stored c.self.invariant.longs c.in-Some-pop_first.ensures.first

pub invariant_of-self-else-comes_first : goal.invariant_of-self-else-comes_first
invariant_of-self-else-comes_first g c =
    record {
      shorts = c.self.invariant.shorts;
      longs = long_popped (λ k. k.items) c.self.inside.long c.pop_first-else-comes_first.new.self c.pop_first-else-comes_first.result c.pop_first-else-comes_first.ensures.rest c.self.invariant.longs;
      few = (
          let less = count_popped (λ k. k.items) c.self.inside.long c.pop_first-else-comes_first.new.self c.pop_first-else-comes_first.result c.pop_first-else-comes_first.ensures.rest in
          let few = c.self.invariant.few in
          omega (arith, less, few)
          );
    }

pub returns-after-pop_first-clause-first : goal.returns-after-pop_first-clause-first
returns-after-pop_first-clause-first g c =
    let t = c.self.inside in
    let order = (λ i. comes_first (sym c.first.ensures i) (sym c.first-2.ensures i)) ∙ sym c.comes_first.ensures ∙ c.if-comes_first.true in
    let first = c.pop_first.ensures.first ∙ both_first t.short t.long c.args.self.now true c.self.invariant.shorts c.self.invariant.longs c.self.view_is order in
    elim c.match-pop_first.branch [
      | in-Some w ↦ w.result-is ∙ ap (λ name. Some (name, w.in-Some.stored)) w.here.ensures ∙ ap (option_map (λ p. (p.0, p.1))) (sym w.in-Some.is) ∙ first
      | in-None w ↦ w.result-is ∙ ap (option_map (λ p. (p.0, p.1))) (sym w.in-None.is) ∙ first
    ]

pub returns-after-pop_first-clause-rest : goal.returns-after-pop_first-clause-rest
returns-after-pop_first-clause-rest g c =
    let t = c.self.inside in
    elim c.match-pop_first.branch [
      | in-Some w ↦ rw w.result-is (
          ap (λ s. both s t.long) w.in-Some.ensures.rest
          ∙ take_short t.short t.long w.in-Some.key c.self.invariant.longs (first_short t.short w.in-Some.key w.in-Some.stored c.self.invariant.shorts w.in-Some.ensures.first)
          ∙ (λ i. without (c.self.view_is i) (sym w.here.ensures i)))
      | in-None w ↦ rw w.result-is (ap (λ s. both s t.long) w.in-None.ensures.rest ∙ c.self.view_is)
    ]

pub returns-after-pop_first-2-clause-first : goal.returns-after-pop_first-2-clause-first
returns-after-pop_first-2-clause-first g c =
    let t = c.self.inside in
    let order = (λ i. comes_first (sym c.first.ensures i) (sym c.first-2.ensures i)) ∙ sym c.comes_first.ensures ∙ c.if-comes_first.false in
    let first = c.pop_first-else-comes_first.ensures.first ∙ both_first t.short t.long c.args.self.now false c.self.invariant.shorts c.self.invariant.longs c.self.view_is order in
    elim c.match-pop_first-2.branch [
      | in-Some-pop_first w ↦ w.result-is ∙ ap (λ name. Some (name, w.in-Some-pop_first.stored)) w.away.ensures ∙ ap (option_map (λ p. (p.0.items, p.1))) (sym w.in-Some-pop_first.is) ∙ first
      | in-None-pop_first w ↦ w.result-is ∙ ap (option_map (λ p. (p.0.items, p.1))) (sym w.in-None-pop_first.is) ∙ first
    ]

pub returns-after-pop_first-2-clause-rest : goal.returns-after-pop_first-2-clause-rest
returns-after-pop_first-2-clause-rest g c =
    let t = c.self.inside in
    elim c.match-pop_first-2.branch [
      | in-Some-pop_first w ↦ rw w.result-is (
          ap (both t.short) w.in-Some-pop_first.ensures.rest
          ∙ take_long t.short t.long w.in-Some-pop_first.key.items c.self.invariant.shorts (first_long t.long w.in-Some-pop_first.key.items w.in-Some-pop_first.stored c.self.invariant.longs w.in-Some-pop_first.ensures.first)
          ∙ (λ i. without (c.self.view_is i) (sym w.away.ensures i)))
      | in-None-pop_first w ↦ rw w.result-is (ap (both t.short) w.in-None-pop_first.ensures.rest ∙ c.self.view_is)
    ]
