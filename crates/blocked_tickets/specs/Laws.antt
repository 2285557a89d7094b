-- Laws on the tickets of the machine, over every table.
use Rattle.std.specs.Prelude.{◌≡◌, ℕ, ◌<◌, ◌≤◌, ◌⊎◌, List, Option, None, Some, IsSome, MatchOption}
use Rattle.blocked_tickets.specs.Kept.{Kept}
use Rattle.blocked_tickets.specs.Outcomes.{CanAdmit}
use Rattle.blocked_tickets.specs.Ticket.{new_ticket}
use Rattle.blocked_tickets.specs.TicketTable.{TicketTable, ticket_at, ticket_of, waiter_of, deadline_of, payload_of, due_at, admitted, unblocked, timed_out, client_gone, closed}

-- each step keeps what holds of the tickets
abbrev pub AdmitKeeps : Type 0
AdmitKeeps =
    (table : TicketTable) (client place : ℕ) (job : List ℕ) (deadline : Option ℕ) → Kept table
    → CanAdmit table → ticket_of table client ≡ None
    → Kept (admitted table (new_ticket client place job deadline))

abbrev pub UnblockKeeps : Type 0
UnblockKeeps =
    (table : TicketTable) (number : ℕ) (payload : List ℕ) → Kept table
    → IsSome (ticket_at table number) → payload_of table number ≡ None
    → Kept (unblocked table number payload)

abbrev pub TimeOutKeeps : Type 0
TimeOutKeeps = (table : TicketTable) (number : ℕ) → Kept table → Kept (timed_out table number)

abbrev pub GoneKeeps : Type 0
GoneKeeps = (table : TicketTable) (client : ℕ) → Kept table → Kept (client_gone table client)

abbrev pub CloseKeeps : Type 0
CloseKeeps = (table : TicketTable) (number : ℕ) → Kept table → Kept (closed table number)

-- a client waits on its ticket, and on none where it has none
abbrev pub TicketOfClient : Type 0
TicketOfClient =
    (table : TicketTable) (client : ℕ)
    → MatchOption (ticket_of table client) ((number : ℕ) → waiter_of table number ≡ Some client → ⊥)
    (λ number. waiter_of table number ≡ Some client)

-- a deadline of this ticket has come
abbrev pub IsDue : TicketTable → ℕ → ℕ → ℕ → Type 0
IsDue table now number deadline = (deadline_of table number ≡ Some deadline) × (deadline ≤ now)

-- one comes before another, or is it
abbrev pub NoLater : ℕ → ℕ → ℕ → ℕ → Type 0
NoLater deadline number other_deadline other = (deadline < other_deadline)
    ⊎ ((deadline ≡ other_deadline) × (number ≤ other))

-- the ticket that is due comes before all whose deadline has come too, and where none is due none
-- has come
abbrev pub FirstIsDue : Type 0
FirstIsDue =
    (table : TicketTable) (now : ℕ)
    → MatchOption (due_at table now) ((number deadline : ℕ) → IsDue table now number deadline → ⊥)
    (λ first. (deadline : ℕ) × IsDue table now first deadline
    × ((number d : ℕ) → IsDue table now number d → NoLater deadline first d number))
