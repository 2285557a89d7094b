-- Serves clause first of KeyStore::next_due.
use Rattle.std.proofs.Common.{◌≡◌, false, cond, None, Some, nat_le, sym, ap, ◌∙◌, arith, le-leb}
use Rattle.std.proofs.lemmas.Bool.Decides.{nat_tests}
use Rattle.std.specs.Option.{option_map}
use Rattle.key_store.specs.NextDue.{next_due}
use Rattle.key_store.specs.inner.Index.{due_of}
use Rattle.key_store.proofs.Soonest.{come, first_is_next}
use Rattle.key_store.proofs.store.KeyStore.next_due.Goals.{in_default-via-in-Some+else-due-now, in_default-via-in_default}
use Rattle.key_store.proofs.store.KeyStore.next_due.Goals as goal

pub returns-in-Some : goal.returns-in-Some
returns-in-Some g c =
    let now = c.args.now in
    let due = c.in-Some.due.now in
    let first = option_map (λ d. due_of d.now) c.first.result in
    record {
      first = ap Some c.as_slice.ensures.bytes
          ∙ sym (ap (λ o. option_map (λ d. d.key) (come now (option_map (λ d. due_of d.now) o))) c.in-Some.is ∙ ap (λ b. option_map (λ d. d.key) (cond b (Some (due_of due)) None)) (le-leb due.moment now c.if-due-now.true))
          ∙ ap (option_map (λ d. d.key)) (first_is_next now c.self.inside.dues c.self.inside.table first c.self.invariant c.first.ensures.earliest)
          ∙ ap (λ keys. next_due keys now) c.self.view_is;
    }

pub returns-in_default : goal.returns-in_default
returns-in_default g c =
    let now = c.args.now in
    let first = option_map (λ d. due_of d.now) c.first.result in
    let is_next = ap (option_map (λ d. d.key)) (first_is_next now c.self.inside.dues c.self.inside.table first c.self.invariant c.first.ensures.earliest) ∙ ap (λ keys. next_due keys now) c.self.view_is in
    elim c.in_default.branch [
      | in_default-via-in-Some+else-due-now w ↦ let due = w.in-Some.due.now in
          let later : nat_le due.moment now ≡ false = (let over = w.if-due-now.false in grind (arith, nat_tests)) in
          record {
            first = sym (ap (λ o. option_map (λ d. d.key) (come now (option_map (λ d. due_of d.now) o))) w.in-Some.is ∙ ap (λ b. option_map (λ d. d.key) (cond b (Some (due_of due)) None)) later) ∙ is_next;
          }
      | in_default-via-in_default w ↦ record { first = sym (ap (λ o. option_map (λ d. d.key) (come now (option_map (λ d. due_of d.now) o))) w.in_default.is) ∙ is_next }
    ]
