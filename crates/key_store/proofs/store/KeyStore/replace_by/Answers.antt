-- Serves the invariant after a key got another value.
use Rattle.std.proofs.Common.{sym, ap, ◌∙◌}
use Rattle.core_types.specs.Keys.{entry_at, with_entry, with_value}
use Rattle.key_store.specs.inner.Index.{taken_out}
use Rattle.key_store.proofs.Indexes.{deadline_in, indexed_as, indexed_put}
use Rattle.key_store.proofs.store.KeyStore.replace_by.Goals as goal

pub invariant_of-self : goal.invariant_of-self
invariant_of-self g c =
    let keys = c.self.inside.table in
    let dues = c.self.inside.dues in
    let key = c.args.name in
    let value = c.args.value in
    let before = c.exchange-before.result.deadline in
    indexed_as (taken_out dues key before) c.forget.new.self (with_value keys key value) c.exchange-before.new.self
    (c.forget.ensures.removed ∙ ap (taken_out dues key) c.deadline.ensures)
    (c.exchange-before.ensures.after ∙ (λ i. with_entry keys (c.as_slice.ensures.bytes i) (c.new.ensures i)))
    (indexed_put dues keys key value before c.self.invariant
    (ap (λ k. deadline_in (entry_at keys k)) (sym c.as_slice.ensures.bytes) ∙ sym (ap deadline_in c.exchange-before.ensures.before)))
