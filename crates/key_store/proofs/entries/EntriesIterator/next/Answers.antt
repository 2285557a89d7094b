-- Serves the clauses of Entries::next.
use Rattle.std.proofs.Common.{◌∷◌, sym, ap, ◌∙◌, map}
use Rattle.std.specs.Map.Iter.{deref_pair}
use Rattle.key_store.specs.inner.Halves.{comes_first, merged}
use Rattle.key_store.proofs.Iterated.{long_next, named, never_none, order_of_none, none_next, progress, read_by, short_next, shown}
use Rattle.key_store.proofs.entries.EntriesIterator.next.Goals.{in-Some, in-None, in-Some-next, in-None-next}
use Rattle.key_store.proofs.entries.EntriesIterator.next.Goals as goal

pub returns-after-next-clause-steps : goal.returns-after-next-clause-steps
returns-after-next-clause-steps g c =
    let es = read_by (λ k. k) c.self.inside.short in
    let fs = read_by (λ k. k.items) c.self.inside.long in
    let order = (λ i. comes_first (sym (named (λ k. k) c.first.result c.self.inside.short c.first.ensures) i) (sym (named (λ k. k.items) c.first-2.result c.self.inside.long c.first-2.ensures) i)) ∙ sym c.comes_first.ensures ∙ c.if-comes_first.true in
    elim c.match-next.branch [
      | in-Some w ↦ rw w.result-is (
          let left = read_by (λ k. k) c.next.new.self in
          sym c.self.view_is
          ∙ short_next es fs left (w.in-Some.key.now, w.in-Some.stored.now) (ap (read_by (λ k. k)) w.in-Some.ensures.steps) order
          ∙ (λ i. (sym w.as_slice.ensures i, sym w.value.ensures i) ∷ map shown (merged left fs)))
      | in-None w ↦ rw w.result-is (never_none es fs (ap (read_by (λ k. k)) w.in-None.ensures.steps.0) order)
    ]

pub returns-after-next-clause-goes : goal.returns-after-next-clause-goes
returns-after-next-clause-goes g c = progress deref_pair _ _ _ (returns-after-next-clause-steps g c)

pub returns-after-next-2-clause-steps : goal.returns-after-next-2-clause-steps
returns-after-next-2-clause-steps g c =
    let es = read_by (λ k. k) c.self.inside.short in
    let fs = read_by (λ k. k.items) c.self.inside.long in
    let order = (λ i. comes_first (sym (named (λ k. k) c.first.result c.self.inside.short c.first.ensures) i) (sym (named (λ k. k.items) c.first-2.result c.self.inside.long c.first-2.ensures) i)) ∙ sym c.comes_first.ensures ∙ c.if-comes_first.false in
    elim c.match-next-2.branch [
      | in-Some-next w ↦ rw w.result-is (
          let left = read_by (λ k. k.items) c.next-else-comes_first.new.self in
          sym c.self.view_is
          ∙ long_next es fs left (w.in-Some-next.key.now.items, w.in-Some-next.stored.now) (ap (read_by (λ k. k.items)) w.in-Some-next.ensures.steps) order
          ∙ (λ i. (sym w.as_slice-in-Some-next.ensures.value i, sym w.value-in-Some-next.ensures i) ∷ map shown (merged es left)))
      | in-None-next w ↦ rw w.result-is (
        sym c.self.view_is ∙ none_next es fs (ap (read_by (λ k. k.items)) w.in-None-next.ensures.steps.0) order,
        none_next es (read_by (λ k. k.items) c.next-else-comes_first.new.self) (ap (read_by (λ k. k.items)) w.in-None-next.ensures.steps.1) (order_of_none es fs (ap (read_by (λ k. k.items)) w.in-None-next.ensures.steps.0) order (read_by (λ k. k.items) c.next-else-comes_first.new.self) (ap (read_by (λ k. k.items)) w.in-None-next.ensures.steps.1)),
      )
    ]

pub returns-after-next-2-clause-goes : goal.returns-after-next-2-clause-goes
returns-after-next-2-clause-goes g c = progress deref_pair _ _ _ (returns-after-next-2-clause-steps g c)
