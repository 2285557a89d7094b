-- Serves the invariant after a deadline was set, and clause err.
use Rattle.std.proofs.Common.{◌≡◌, sym, ap, ◌∙◌}
use Rattle.core_types.specs.Keys.{entry_at, with_deadline}
use Rattle.key_store.specs.inner.Index.{entered, taken_out, unless_same}
use Rattle.key_store.proofs.Indexes.{indexed_as, indexed_set, some_entry}
use Rattle.key_store.proofs.Moves.{dated_back}
use Rattle.key_store.proofs.store.KeyStore.set_deadline.Goals.{in-Away-1, in-Here-1}
use Rattle.key_store.proofs.store.KeyStore.set_deadline.Goals as goal

pub invariant_of-self : goal.invariant_of-self
invariant_of-self g c =
    let keys = c.self.inside.table in
    let dues = c.self.inside.dues in
    let key = c.args.key.now in
    let at = c.args.at in
    let before = c.set_deadline-before.result in
    let with_new : c.insert.new.self ≡ entered dues key (unless_same at before) = c.in-Ok.ensures.ok ∙ ap (entered dues key) c.unless_same.ensures in
    indexed_as (taken_out (entered dues key (unless_same at before)) key (unless_same before at)) c.forget.new.self (with_deadline keys key at) c.set_deadline-before.new.self
    (c.forget.ensures.removed ∙ (λ i. taken_out (with_new i) (c.in_ok-name.ensures.bytes i) (c.unless_same-in-Ok.ensures i)))
    c.set_deadline-before.ensures.set
    (indexed_set dues keys key before at c.self.invariant (sym c.set_deadline-before.ensures.before) (some_entry (entry_at keys key) (rw c.self.view_is c.requires.there)))

pub invariant_of-self-in-Err : goal.invariant_of-self-in-Err
invariant_of-self-in-Err g c =
    let keys = c.self.inside.table in
    let key = c.args.key.now in
    indexed_as c.self.inside.dues c.insert.new.self keys c.set_deadline.new.self c.in-Err.ensures.err
    (c.set_deadline.ensures.set
    ∙ (λ i. with_deadline (c.set_deadline-before.ensures.set i) key (c.set_deadline-before.ensures.before i))
    ∙ dated_back keys key c.args.at)
    c.self.invariant

pub invariant_of-self-in-Err-2 : goal.invariant_of-self-in-Err-2
invariant_of-self-in-Err-2 g c =
    let keys = c.self.inside.table in
    let key = c.args.key.now in
    indexed_as c.self.inside.dues c.insert.new.self keys c.set_deadline.new.self c.in-Err.ensures.err
    (c.set_deadline.ensures.set
    ∙ (λ i. with_deadline (c.set_deadline-before.ensures.set i) key (c.set_deadline-before.ensures.before i))
    ∙ dated_back keys key c.args.at)
    c.self.invariant

pub returns-in-Err-clause-err : goal.returns-in-Err-clause-err
returns-in-Err-clause-err g c =
    let keys = c.self.inside.table in
    let key = c.args.key.now in
    let back = c.set_deadline.ensures.set
    ∙ (λ i. with_deadline (c.set_deadline-before.ensures.set i) key (c.set_deadline-before.ensures.before i))
    ∙ dated_back keys key c.args.at ∙ c.self.view_is in
    elim c.match-name.branch [
      | in-Away-1 w ↦ w.self-is ∙ back
      | in-Here-1 w ↦ w.self-is ∙ back
    ]
