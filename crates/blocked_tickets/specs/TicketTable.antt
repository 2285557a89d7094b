-- The tickets of the machine: those that are held, which of them were unblocked, and each step on
-- them.
use Rattle.std.specs.Prelude.{ℕ, ◌+◌, ◌==◌, nat_le, List, [], ◌∷◌, ◌++◌, filter, not, Option, false, refl}
use Rattle.std.specs.Option.{option_map, option_and_then, option_map_or}
use Rattle.std.specs.List.{find, filter_map}
use Rattle.std.specs.Ordering.{nat_cmp}
use Rattle.std.specs.FinMap as map
use Rattle.std.specs.Coded.{Coded, code_by, coded×, coded_ℕ, coded_list}
use Rattle.blocked_tickets.specs.declared.deadlines.Due.{Due}
use Rattle.blocked_tickets.specs.declared.ticket.Phase.TheVariants.{TimedOut, Gone}
use Rattle.blocked_tickets.specs.declared.ticket.Ticket.{Ticket}
use Rattle.blocked_tickets.specs.contracts.ticket.Ticket as ticket
use Rattle.blocked_tickets.specs.Due.{soonest}
use Rattle.blocked_tickets.specs.Ticket.{turned, with_payload, waiter, open_deadline}

-- the tickets that are held, by number
abbrev pub HeldMap : Type 0
HeldMap = map.FinMap nat_cmp Ticket

abbrev pub coded_held : Coded HeldMap
coded_held = map.code coded_ℕ (ticket.the_row).coded

-- the tickets that are held; the numbers of those that were unblocked, in order of their unblocks;
-- and the number of the next ticket
pub record TicketTable : Type 0 where
  pub held : HeldMap
  pub ready : List ℕ
  pub next : ℕ

-- a table is stored as the tuple of its fields
abbrev pub coded_table : Coded TicketTable
coded_table =
    code_by (HeldMap × (List ℕ × ℕ)) (coded× coded_held (coded× (coded_list coded_ℕ) coded_ℕ))
    (λ t. (t.held, (t.ready, t.next))) (λ p. record { held = p.0; ready = p.1.0; next = p.1.1 })
    (λ _. refl)

-- ---- what a table shows

-- the ticket of a number, where it is held
abbrev pub ticket_at : TicketTable → ℕ → Option Ticket
ticket_at table number = map.get table.held number

-- the client that waits on the ticket of this number, if the ticket is held and one does
abbrev pub waiter_of : TicketTable → ℕ → Option ℕ
waiter_of table number = option_and_then waiter (ticket_at table number)

-- the deadline of the ticket of this number that can still come
abbrev pub deadline_of : TicketTable → ℕ → Option ℕ
deadline_of table number = option_and_then open_deadline (ticket_at table number)

-- the payload of the ticket of this number
abbrev pub payload_of : TicketTable → ℕ → Option (List ℕ)
payload_of table number = option_and_then (λ ticket. ticket.payload) (ticket_at table number)

-- the ticket on which a client waits
abbrev pub ticket_of : TicketTable → ℕ → Option ℕ
ticket_of table client =
    option_map (λ e. e.0)
    (find (λ e. option_map_or (λ c. c == client) (waiter e.1) false) (map.entries table.held))

-- the deadlines that can still come
abbrev pub open_deadlines : TicketTable → List Due
open_deadlines table =
    filter_map (λ e. option_map (λ d. record { deadline = d; ticket = e.0 }) (open_deadline e.1))
    (map.entries table.held)

-- the ticket that is due now: of those whose deadline has come, the one of the least deadline, then
-- of the least number
abbrev pub due_at : TicketTable → ℕ → Option ℕ
due_at table now =
    option_map (λ due. due.ticket)
    (soonest (filter (λ due. nat_le due.deadline now) (open_deadlines table)))

-- ---- the steps

abbrev pub no_tickets : TicketTable
no_tickets = record { held = map.empty; ready = []; next = 1 }

-- with a new ticket, which has the next number
abbrev pub admitted : TicketTable → Ticket → TicketTable
admitted table ticket =
    record {
      held = map.insert table.held table.next ticket;
      ready = table.ready;
      next =
          table.next + 1;
    }

-- with one ticket changed, where it is held
abbrev pub with_changed : HeldMap → ℕ → (Ticket → Ticket) → HeldMap
with_changed held number change =
    option_map_or (λ ticket. map.insert held number (change ticket)) (map.get held number) held

abbrev pub changed : TicketTable → ℕ → (Ticket → Ticket) → TicketTable
changed table number change = record table { held = with_changed table.held number change }

-- with one ticket unblocked, which is ready last
abbrev pub unblocked : TicketTable → ℕ → List ℕ → TicketTable
unblocked table number payload =
    record {
      held = with_changed table.held number (with_payload payload);
      ready =
          table.ready ++ number ∷ [];
      next = table.next;
    }

-- with one ticket timed out
abbrev pub timed_out : TicketTable → ℕ → TicketTable
timed_out table number = changed table number (turned TimedOut)

-- with the ticket gone on which a client waited
abbrev pub client_gone : TicketTable → ℕ → TicketTable
client_gone table client =
    option_map_or (λ number. changed table number (turned Gone)) (ticket_of table client) table

-- with one ticket held no more
abbrev pub closed : TicketTable → ℕ → TicketTable
closed table number =
    record {
      held = map.remove table.held number;
      ready =
          filter (λ n. not (n == number)) table.ready;
      next = table.next;
    }
