-- Serves the invariant after a key was put that was not there.
use Rattle.std.proofs.Common.{◌≡◌, None, refl, ap, ◌∙◌}
use Rattle.core_types.specs.Keys.{entry_at, value_at, with_entry, with_value}
use Rattle.key_store.proofs.Indexes.{deadline_in, indexed_as, indexed_put, no_entry}
use Rattle.key_store.proofs.store.KeyStore.put_new.Goals.{in-Ok-insert+in-None, in-Err}
use Rattle.key_store.proofs.store.KeyStore.put_new.Goals as goal

pub invariant_of-self : goal.invariant_of-self
invariant_of-self g c =
    let keys = c.self.inside.table in
    let dues = c.self.inside.dues in
    let key = c.args.key.now in
    let value = c.args.value in
    let absent = no_entry (entry_at keys key) (ap (λ k. value_at k key) c.self.view_is ∙ c.requires.absent) in
    let put = indexed_put dues keys key value None c.self.invariant (ap deadline_in absent) in
    let is_put : with_entry keys c.in-Ok.name c.new-2.result ≡ with_value keys key value = λ i. with_entry keys (c.in-Ok.ensures.bytes i) (c.new-2.ensures i) in
    elim c.match-insert.branch [
      | in-Ok-insert+in-None w ↦ indexed_as dues dues (with_value keys key value) c.insert.new.self refl (w.in-Ok-insert.ensures.ok ∙ is_put) put
      | in-Err w ↦ indexed_as dues dues keys c.insert.new.self refl w.in-Err.ensures.err c.self.invariant
    ]
