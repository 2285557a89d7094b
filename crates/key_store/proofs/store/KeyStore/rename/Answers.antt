-- Serves the invariant after a key was renamed or memory ran out.
use Rattle.std.proofs.Common.{◌≡◌, sym, ap, ◌∙◌}
use Rattle.core_types.specs.Keys.{deadline_at, entry_at, renamed}
use Rattle.key_store.specs.inner.Index.{entered, taken_out, unless_same}
use Rattle.key_store.proofs.Indexes.{indexed_as, indexed_renamed, indexes_unset, some_entry}
use Rattle.key_store.proofs.store.KeyStore.rename.Goals as goal

pub invariant_of-self-in-Ok : goal.invariant_of-self-in-Ok
invariant_of-self-in-Ok g c =
    let keys = c.self.inside.table in
    let dues = c.self.inside.dues in
    let from = c.args.from.now in
    let to = c.args.to in
    let moved = c.deadline-moved.result in
    let there = c.deadline-there.result in
    let was : deadline_at keys from ≡ moved = ap (λ k. deadline_at k from) c.self.view_is ∙ sym c.deadline-moved.ensures.deadline in
    let had : deadline_at keys to ≡ there = ap (λ k. deadline_at k to) c.self.view_is ∙ sym (c.deadline-there.ensures.deadline ∙ ap (deadline_at c.args.self.now) c.as_slice.ensures.bytes) in
    let with_new : c.insert.new.self ≡ entered dues to (unless_same moved there) =
    c.in_ok-insert.ensures.ok ∙ (λ i. entered dues (c.as_slice-3.ensures.bytes i) (c.unless_same-gained.ensures i)) in
    let set_to : c.forget.new.self ≡ taken_out (entered dues to (unless_same moved there)) to (unless_same there moved) =
    c.forget.ensures.removed ∙ (λ i. taken_out (with_new i) ((c.in_ok-name.ensures.bytes ∙ c.as_slice-2.ensures.bytes) i) (c.unless_same.ensures i)) in
    indexed_as (taken_out (taken_out (entered dues to (unless_same moved there)) to (unless_same there moved)) from moved) c.forget-in-Ok.new.self (renamed keys from to) c.rename.new.self
    (c.forget-in-Ok.ensures.removed ∙ (λ i. taken_out (set_to i) (c.in-Ok.ensures.name i) moved))
    (c.in-Ok.ensures.ok ∙ ap (renamed keys from) c.as_slice-4.ensures.bytes)
    (indexed_renamed dues keys from to moved there c.self.invariant was had (some_entry (entry_at keys from) (rw c.self.view_is c.requires.there)) c.requires.apart)

pub invariant_of-self-in-Some : goal.invariant_of-self-in-Some
invariant_of-self-in-Some g c =
    let keys = c.self.inside.table in
    let dues = c.self.inside.dues in
    let from = c.args.from.now in
    let to = c.args.to in
    let moved = c.deadline-moved.result in
    let there = c.deadline-there.result in
    let was : deadline_at keys from ≡ moved = ap (λ k. deadline_at k from) c.self.view_is ∙ sym c.deadline-moved.ensures.deadline in
    let had : deadline_at keys to ≡ there = ap (λ k. deadline_at k to) c.self.view_is ∙ sym (c.deadline-there.ensures.deadline ∙ ap (deadline_at c.args.self.now) c.as_slice.ensures.bytes) in
    let with_new : c.insert.new.self ≡ entered dues to (unless_same moved there) =
    c.in_ok-insert.ensures.ok ∙ (λ i. entered dues (c.as_slice-3.ensures.bytes i) (c.unless_same-gained.ensures i)) in
    let set_to : c.forget.new.self ≡ taken_out (entered dues to (unless_same moved there)) to (unless_same there moved) =
    c.forget.ensures.removed ∙ (λ i. taken_out (with_new i) ((c.in_ok-name.ensures.bytes ∙ c.as_slice-2.ensures.bytes) i) (c.unless_same.ensures i)) in
    indexed_as (taken_out (taken_out (entered dues to (unless_same moved there)) to (unless_same there moved)) from moved) c.forget-in-Ok.new.self (renamed keys from to) c.rename.new.self
    (c.forget-in-Ok.ensures.removed ∙ (λ i. taken_out (set_to i) (c.in-Ok.ensures.name i) moved))
    (c.in-Ok.ensures.ok ∙ ap (renamed keys from) c.as_slice-4.ensures.bytes)
    (indexed_renamed dues keys from to moved there c.self.invariant was had (some_entry (entry_at keys from) (rw c.self.view_is c.requires.there)) c.requires.apart)

pub invariant_of-self-in-Err : goal.invariant_of-self-in-Err
invariant_of-self-in-Err g c =
    let keys = c.self.inside.table in
    let dues = c.self.inside.dues in
    let to = c.args.to in
    let moved = c.deadline-moved.result in
    let there = c.deadline-there.result in
    let had : deadline_at keys to ≡ there = ap (λ k. deadline_at k to) c.self.view_is ∙ sym (c.deadline-there.ensures.deadline ∙ ap (deadline_at c.args.self.now) c.as_slice.ensures.bytes) in
    let with_new : c.insert.new.self ≡ entered dues to (unless_same moved there) =
    c.in_ok-insert.ensures.ok ∙ (λ i. entered dues (c.as_slice-3.ensures.bytes i) (c.unless_same-gained.ensures i)) in
    indexed_as (taken_out (entered dues to (unless_same moved there)) to (unless_same moved there)) c.forget-in-Err.new.self keys c.rename.new.self
    (c.forget-in-Err.ensures.removed ∙ (λ i. taken_out (with_new i) ((c.in_ok-name.ensures.bytes ∙ c.as_slice-2.ensures.bytes) i) (c.unless_same-gained.ensures i)))
    c.in-Err.ensures.err
    (indexes_unset dues (deadline_at keys) to there moved c.self.invariant had)
