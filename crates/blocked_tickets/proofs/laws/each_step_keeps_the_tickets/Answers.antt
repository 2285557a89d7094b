-- Serves the law that each step keeps what holds of the tickets.
use Rattle.std.proofs.Common.{◌≡◌, ℕ, None, Some, IsSome, refl}
use Rattle.std.specs.Option.{option_map_or}
use Rattle.std.proofs.lemmas.Bool.{false≢true}
use Rattle.std.proofs.lemmas.Option.{MatchOption-at_none}
use Rattle.blocked_tickets.specs.declared.ticket.Phase.TheVariants.{TimedOut, Gone}
use Rattle.blocked_tickets.specs.Kept.{Kept}
use Rattle.blocked_tickets.specs.Ticket.{turned}
use Rattle.blocked_tickets.specs.TicketTable.{ticket_at, ticket_of, waiter_of, changed, unblocked}
use Rattle.blocked_tickets.proofs.Found.{ticket_of_client}
use Rattle.blocked_tickets.proofs.Keeps.{kept_new, kept_admitted, kept_unblocked, kept_turned, kept_closed}
use Rattle.blocked_tickets.proofs.laws.each_step_keeps_the_tickets.Goals as goal

pub returns : goal.returns
returns c = record {
  new = kept_new;
  admitted = λ table client place job deadline kept can none.
      kept_admitted table client place job deadline kept can
      (MatchOption-at_none ((q : ℕ) → waiter_of table q ≡ Some client → ⊥) (λ q. waiter_of table q ≡ Some client) none (ticket_of_client table client));
  unblocked = λ table n payload kept some none.
      elim (ticket_at table n) as (λ o. ticket_at table n ≡ o → IsSome o → Kept (unblocked table n payload)) [
        | None ↦ λ _ there. absurd (false≢true there)
        | Some t ↦ λ is _. kept_unblocked table n payload t kept is none
      ] refl some;
  timed_out = λ table n kept. kept_turned table n TimedOut kept refl;
  gone = λ table client kept.
      elim (ticket_of table client) as (λ o. Kept (option_map_or (λ n. changed table n (turned Gone)) o table)) [
        | None ↦ kept
        | Some n ↦ kept_turned table n Gone kept refl
      ];
  closed = λ table n kept. kept_closed table n kept;
}
