-- Serves the invariant after a key was taken out.
use Rattle.std.proofs.Common.{None, refl, sym, ap, ◌∙◌}
use Rattle.core_types.specs.Keys.{without}
use Rattle.key_store.specs.inner.Index.{taken_out}
use Rattle.key_store.proofs.Indexes.{deadline_in, indexed_as, indexed_taken}
use Rattle.key_store.proofs.store.KeyStore.take.Goals as goal

pub invariant_of-self : goal.invariant_of-self
invariant_of-self g c =
    let keys = c.self.inside.table in
    let dues = c.self.inside.dues in
    let key = c.args.key.now in
    let before = c.deadline.result in
    indexed_as (taken_out dues key before) c.forget.new.self (without keys key) c.remove.new.self
    (c.forget.ensures.removed ∙ ap (λ k. taken_out dues k before) c.in-Some.ensures.key)
    c.remove.ensures.removed
    (indexed_taken dues keys key before c.self.invariant (ap deadline_in (sym c.in-Some.ensures.entry) ∙ sym c.deadline.ensures))

pub invariant_of-self-in-None : goal.invariant_of-self-in-None
invariant_of-self-in-None g c =
    let keys = c.self.inside.table in
    let dues = c.self.inside.dues in
    let key = c.args.key.now in
    indexed_as dues dues (without keys key) c.remove.new.self
    refl
    c.remove.ensures.removed
    (indexed_taken dues keys key None c.self.invariant (ap deadline_in (sym c.in-None.ensures.entry)))
