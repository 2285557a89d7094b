-- What is due first, in words. Serves the clause of `next_due_in_words`.
use Rattle.std.proofs.Common.{◌≡◌, refl, sym, ap, ◌∙◌, arith, ℕ, ◌<◌, ◌≤◌, Bool, true, false, nat_le, Option, Some, None, leb-true}
use Rattle.std.specs.Ordering.{nat_cmp, is_gt, ordering_then}
use Rattle.std.specs.Cmp.{nat_cmp_total}
use Rattle.std.specs.Cmp.Lexicographic.{slice_cmp}
use Rattle.std.specs.Option.{IfSome, option_map}
use Rattle.std.specs.FinMap as finite
use Rattle.std.proofs.lemmas.Bool.Decides.{nat_tests}
use Rattle.std.proofs.lemmas.Cmp.{tied_itself}
use Rattle.core_types.specs.Keys.{KeysOf}
use Rattle.key_store.specs.NextDue.{Due, soonest, dues, IsNextDue}
use Rattle.key_store.specs.inner.Index.{due_cmp}
use Rattle.key_store.proofs.Soonest.{IsDue, Leads, all_are_due, each_due, no_later, none_due, soonest_has, soonest_leads}

past_or_not : {G : Type 0} (at now : ℕ) → (at ≤ now → G) → (now < at → G) → G
past_or_not {G} at now past later = by (nat_le at now) refl
  where
    over : (at now : ℕ) → nat_le at now ≡ false → now < at
    over at now is = grind (arith, nat_tests)

    by : (b : Bool) → nat_le at now ≡ b → G
    by true is = past (leb-true at now is)
    by false is = later (over at now is)

module _ {N : Type 0} (now : ℕ) where
  pub in_words : (keys : KeysOf N) → (o : Option Due) → soonest (dues now (finite.entries keys)) ≡ o → IfSome o (IsDue now keys) → IfSome o (λ d. Leads d (dues now (finite.entries keys)))
      → IsNextDue keys now (option_map (λ d. d.key) o)
  in_words keys None none due leads = λ key at is.
      past_or_not at now (λ past. absurd (none_due now keys none (record { key = key; moment = at }) (is, past))) (λ later. later)
  in_words keys (Some d) is due leads =
      let not_after = λ (x : Due) (x_due : IsDue now keys x). each_due now keys (λ y. is_gt (due_cmp d y) ≡ false) leads x x_due in
      let come = due.1 in
      record {
        moment = d.moment;
        deadline = due.0;
        come = come;
        earliest = λ other at is_at.
            past_or_not at now (λ past. no_later d (record { key = other; moment = at }) (not_after (record { key = other; moment = at }) (is_at, past))) (λ later. omega (arith, later, come));
        first = λ other is_at.
            sym (ap (λ o. is_gt (ordering_then o (slice_cmp nat_cmp d.key other))) (tied_itself nat_cmp_total d.moment))
            ∙ not_after (record { key = other; moment = d.moment }) (is_at, come);
      }

  pub next_in_words : (keys : KeysOf N) → IsNextDue keys now (option_map (λ d. d.key) (soonest (dues now (finite.entries keys))))
  next_in_words keys =
      in_words keys (soonest (dues now (finite.entries keys))) refl (soonest_has (IsDue now keys) (dues now (finite.entries keys)) (all_are_due now keys)) (soonest_leads now (finite.entries keys) (finite.entries_sorted keys))
