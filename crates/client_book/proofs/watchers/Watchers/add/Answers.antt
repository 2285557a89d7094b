use Rattle.std.proofs.Common.{◌≡◌, Some, None, inl, ap, subst, sym, ◌∙◌, refl, IsSome}
use Rattle.std.specs.Ordering.{nat_cmp}
use Rattle.std.specs.BTreeSet.{contains}
use Rattle.std.proofs.lemmas.Bool.{false≢true}
use Rattle.client_book.specs.inner.Watching.{is_in}
use Rattle.client_book.proofs.Listing.{kept-changed, kept-insert, only_left_of, at_key}
use Rattle.client_book.proofs.watchers.Watchers.add.Goals as goal

pub returns-in_err-insert-clause-kept : goal.returns-in_err-insert-clause-kept
returns-in_err-insert-clause-kept c = λ key client had.
    only_left_of (kept-changed (λ k. k.items) c.args.self.now.clients (c.get_mut.follows.lender c.insert.new.self) c.args.key.now (Some c.insert.new.self)
    ((c.get_mut.follows.holds c.insert.new.self).3 (subst IsSome c.in-Some.ensures.value refl)) {leaves = λ _. ⊥}
    (λ other had. inl (ap (λ keys. Rattle.std.specs.List.list_any (Rattle.std.specs.BTreeMap.is_at (nat_cmp other)) keys) c.in_err-insert.ensures.err ∙ ap (λ o. is_in o other) c.in-Some.ensures.value ∙ had))
    key client had)

pub returns-in-Some-clause-kept : goal.returns-in-Some-clause-kept
returns-in-Some-clause-kept c = λ key client had.
    only_left_of (kept-changed (λ k. k.items) c.args.self.now.clients (c.get_mut.follows.lender c.insert.new.self) c.args.key.now (Some c.insert.new.self)
    ((c.get_mut.follows.holds c.insert.new.self).3 (subst IsSome c.in-Some.ensures.value refl)) {leaves = λ _. ⊥}
    (λ other had. inl (kept-insert c.in-Some.clients.now c.insert.new.self c.args.client c.in_ok-insert.ensures.updates other (ap (λ o. is_in o other) c.in-Some.ensures.value ∙ had)))
    key client had)

pub returns-clause-kept : goal.returns-clause-kept
returns-clause-kept c = λ key client had.
    let m = c.get_mut.follows.lender-at-none in
    let same = c.get_mut.follows.holds-at-none in
    let v = c.in_ok-from_slice.field-0.items in
    let none : None ≡ at_key (λ k. k.items) m v = c.in_default.ensures.value ∙ ap (at_key (λ k. k.items) c.args.self.now.clients) (sym c.in_ok-from_slice.ensures.items) ∙ ap (λ t. at_key (λ k. k.items) t v) (sym same) in
    only_left_of (kept-changed (λ k. k.items) m c.insert-3.new.self v (Some c.insert-2.new.self) c.in_ok-insert-3.ensures.updates {leaves = λ _. ⊥}
    (λ other had. absurd (false≢true (ap (λ o. is_in o other) none ∙ had)))
    key client (ap (λ t. is_in (at_key (λ k. k.items) t key) client) same ∙ had))
