use Rattle.std.proofs.Common.{◌≡◌, ⊎_elim, inl, inr, Some, None, ap, subst, sym, ◌∙◌, refl, IsSome}
use Rattle.std.proofs.lemmas.Bool.{false≢true}
use Rattle.client_book.specs.inner.Watching.{is_in}
use Rattle.client_book.proofs.Listing.{kept-changed, kept-remove, fewer-changed, fewer-remove, none_listed, only_left_of}
use Rattle.client_book.proofs.watchers.Watchers.remove.Goals as goal

pub returns-else-is_empty : goal.returns-else-is_empty
returns-else-is_empty c =
    let m = c.args.self.now.clients in
    let n = c.get_mut.follows.lender c.remove.new.self in
    let updates =
    (c.get_mut.follows.holds c.remove.new.self).3
    (subst IsSome c.in-Some.ensures.value refl) in
    let left = Some c.remove.new.self in
    record {
      gone = ap (λ o. is_in o c.args.client) updates.1 ∙ c.remove.ensures.updates.1;
      no_other = fewer-changed (λ k. k.items) m n c.args.key.now left updates
          (λ other has.
          sym (ap (λ o. is_in o other) c.in-Some.ensures.value)
          ∙ fewer-remove c.in-Some.clients.now c.remove.new.self c.args.client
          c.remove.ensures.updates other has);
      kept = kept-changed (λ k. k.items) m n c.args.key.now left updates
          {leaves = λ client. client ≡ c.args.client}
          (λ other had.
          kept-remove c.in-Some.clients.now c.remove.new.self c.args.client
          c.remove.ensures.updates other
          (ap (λ o. is_in o other) c.in-Some.ensures.value ∙ had));
    }

pub returns-then-is_empty : goal.returns-then-is_empty
returns-then-is_empty c =
    let m = c.args.self.now.clients in
    let n = c.get_mut.follows.lender c.remove.new.self in
    let updates =
    (c.get_mut.follows.holds c.remove.new.self).3
    (subst IsSome c.in-Some.ensures.value refl) in
    let left = Some c.remove.new.self in
    let last = c.remove-then-is_empty.new.self in
    let key_gone = c.remove-then-is_empty.ensures.updates in
    record {
      gone = ap (λ o. is_in o c.args.client) key_gone.1;
      no_other = λ key client has.
          fewer-changed (λ k. k.items) m n c.args.key.now left updates
          (λ other has.
          sym (ap (λ o. is_in o other) c.in-Some.ensures.value)
          ∙ fewer-remove c.in-Some.clients.now c.remove.new.self c.args.client
          c.remove.ensures.updates other has)
          key client
          (fewer-changed (λ k. k.items) n last c.args.key.now None key_gone
          (λ other none. absurd (false≢true none)) key client has);
      kept = λ key client had.
          ⊎_elim
          (λ left. inl (only_left_of (kept-changed (λ k. k.items) n last c.args.key.now None
          key_gone {leaves = λ _. ⊥}
          (λ other had. absurd (none_listed c.remove.new.self other
          (c.if-is_empty.ensures.0 refl) (ap (λ o. is_in o other) (sym updates.1) ∙ had)))
          key client left)))
          (λ gone. inr gone)
          (kept-changed (λ k. k.items) m n c.args.key.now left updates
          {leaves = λ client. client ≡ c.args.client}
          (λ other had.
          kept-remove c.in-Some.clients.now c.remove.new.self c.args.client
          c.remove.ensures.updates other
          (ap (λ o. is_in o other) c.in-Some.ensures.value ∙ had))
          key client had);
    }
