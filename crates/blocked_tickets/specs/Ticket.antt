-- A ticket, and what of it counts.
use Rattle.std.specs.Prelude.{ℕ, List, Bool, true, false, Option, None, Some}
use Rattle.blocked_tickets.specs.declared.ticket.Phase.{Phase}
use Rattle.blocked_tickets.specs.declared.ticket.Phase.TheVariants.{Waiting, TimedOut, Gone}
use Rattle.blocked_tickets.specs.declared.ticket.Ticket.{Ticket}

-- a ticket as it is opened: its client waits, and nothing came yet
abbrev pub new_ticket : ℕ → ℕ → List ℕ → Option ℕ → Ticket
new_ticket client place job deadline =
    record {
      client = client;
      place = place;
      job = job;
      deadline = deadline;
      phase = Waiting;
      payload = None;
    }

-- the same ticket in another phase
abbrev pub turned : Phase → Ticket → Ticket
turned phase ticket = record ticket { phase = phase }

-- the same ticket with a payload
abbrev pub with_payload : List ℕ → Ticket → Ticket
with_payload payload ticket = record ticket { payload = Some payload }

-- whether the client of the ticket waits
abbrev pub is_waiting : Phase → Bool
is_waiting Waiting = true
is_waiting TimedOut = false
is_waiting Gone = false

-- the deadline, where no payload came
abbrev pub unless_unblocked : Option (List ℕ) → Option ℕ → Option ℕ
unless_unblocked None deadline = deadline
unless_unblocked (Some payload) deadline = None

-- the deadline that can still come, where the phase is this
abbrev pub while_waiting : Phase → Option ℕ → Option ℕ
while_waiting Waiting x = x
while_waiting TimedOut x = None
while_waiting Gone x = None

-- the client that waits on the ticket, if one does
abbrev pub waiter : Ticket → Option ℕ
waiter ticket = while_waiting ticket.phase (Some ticket.client)

-- the deadline that can still come: that of a Waiting ticket without a payload
abbrev pub open_deadline : Ticket → Option ℕ
open_deadline ticket = while_waiting ticket.phase (unless_unblocked ticket.payload ticket.deadline)
