-- Serves clause first of KeyStore::pop_first, and the invariant after it.
use Rattle.std.proofs.Common.{ap, sym, ◌∙◌, slice_get, Some}
use Rattle.std.specs.Option.{option_map}
use Rattle.std.specs.FinMap as finite
use Rattle.core_types.specs.Keys.{without}
use Rattle.key_store.specs.Listing.{listed}
use Rattle.key_store.specs.inner.Index.{taken_out}
use Rattle.key_store.proofs.Indexes.{deadline_in, indexed_as, indexed_taken}
use Rattle.key_store.proofs.Shown.{shown, first_shown, same_first}
use Rattle.key_store.proofs.Soonest.{first_found}
use Rattle.key_store.proofs.store.KeyStore.pop_first.Goals as goal

pub invariant_of-self : goal.invariant_of-self
invariant_of-self g c =
    let keys = c.self.inside.table in
    let dues = c.self.inside.dues in
    let key = c.in-Some.key in
    let before = c.deadline.result in
    indexed_as (taken_out dues key before) c.remove-key.new.self (without keys key) c.pop_first.new.self
    c.remove-key.ensures.removed
    c.in-Some.ensures.rest
    (indexed_taken dues keys key before c.self.invariant (ap deadline_in (first_found keys (key, c.in-Some.stored) (sym c.in-Some.ensures.first)) ∙ sym c.deadline.ensures))

pub returns-in-Some-clause-first : goal.returns-in-Some-clause-first
returns-in-Some-clause-first g c =
    (λ i. Some (c.remove-key.ensures.key i, c.into_value.ensures i))
    ∙ ap (option_map (shown (λ k. k))) (sym c.in-Some.is)
    ∙ first_shown (λ k. k) c.pop_first.result c.self.inside.table (same_first c.pop_first.result (slice_get (finite.entries c.self.inside.table) 0) c.pop_first.ensures.first)
    ∙ ap (λ keys. slice_get (listed keys) 0) c.self.view_is

pub returns-in-None-clause-first : goal.returns-in-None-clause-first
returns-in-None-clause-first g c =
    ap (option_map (shown (λ k. k))) (sym c.in-None.is)
    ∙ first_shown (λ k. k) c.pop_first.result c.self.inside.table (same_first c.pop_first.result (slice_get (finite.entries c.self.inside.table) 0) c.pop_first.ensures.first)
    ∙ ap (λ keys. slice_get (listed keys) 0) c.self.view_is
