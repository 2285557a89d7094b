-- Serves the invariant after a key got another value, and the clauses on what is put back.
use Rattle.std.proofs.Common.{refl, sym, ap, subst, ◌∙◌, IsSome}
use Rattle.core_types.specs.Keys.{entry_at, with_entry, with_value}
use Rattle.key_store.specs.inner.Index.{taken_out}
use Rattle.key_store.proofs.Indexes.{deadline_in, indexed_as, indexed_put}
use Rattle.key_store.proofs.Moves.{exchanged_back, some_injective, this_key}
use Rattle.key_store.proofs.store.KeyStore.replace.Goals as goal

pub invariant_of-self : goal.invariant_of-self
invariant_of-self g c =
    let keys = c.self.inside.table in
    let dues = c.self.inside.dues in
    let key = c.args.key.now in
    let value = c.args.value in
    let before = c.exchange-before.result.deadline in
    indexed_as (taken_out dues key before) c.forget_key.new.self (with_value keys key value) c.exchange-before.new.self
    (c.in-Ok.ensures.ok ∙ ap (taken_out dues key) c.deadline.ensures)
    (c.exchange-before.ensures.after ∙ ap (with_entry keys key) c.new.ensures)
    (indexed_put dues keys key value before c.self.invariant (sym (ap deadline_in c.exchange-before.ensures.before)))

pub exchange-requires : goal.exchange-requires
exchange-requires g c =
    record {
      there = subst IsSome (sym (ap (λ keys. entry_at keys c.args.key.now) c.exchange-before.ensures.after
          ∙ this_key c.self.inside.table c.args.key.now c.new.result)) refl;
    }

pub invariant_of-self-in-Err : goal.invariant_of-self-in-Err
invariant_of-self-in-Err g c =
    let keys = c.self.inside.table in
    indexed_as c.self.inside.dues c.forget_key.new.self keys c.exchange.new.self
    c.in-Err.ensures.err
    (c.exchange.ensures.after
    ∙ ap (λ k. with_entry k c.args.key.now c.exchange-before.result) c.exchange-before.ensures.after
    ∙ exchanged_back keys c.args.key.now c.new.result c.exchange-before.result c.exchange-before.ensures.before)
    c.self.invariant

pub returns-in-Err-clause-back : goal.returns-in-Err-clause-back
returns-in-Err-clause-back g c =
    c.into_value-in-Err.ensures
    ∙ ap (λ entry. entry.value) (some_injective (c.exchange.ensures.before
    ∙ ap (λ keys. entry_at keys c.args.key.now) c.exchange-before.ensures.after
    ∙ this_key c.self.inside.table c.args.key.now c.new.result) ∙ c.new.ensures)

pub returns-in-Err-clause-err : goal.returns-in-Err-clause-err
returns-in-Err-clause-err g c =
    let keys = c.self.inside.table in
    c.exchange.ensures.after
    ∙ ap (λ k. with_entry k c.args.key.now c.exchange-before.result) c.exchange-before.ensures.after
    ∙ exchanged_back keys c.args.key.now c.new.result c.exchange-before.result c.exchange-before.ensures.before
    ∙ c.self.view_is
