-- What each refusal says of the tickets, one line an outcome.
use Rattle.std.specs.Prelude.{◌≡◌, ℕ, ◌<◌, ◌≤◌, ◌^◌, ◌-◌, List, None, Result, Ok, Err, IsSome, ◌⊎◌}
use Rattle.std.specs.FinMap as map
use Rattle.blocked_tickets.specs.declared.admit_fault.AdmitFault.{AdmitFault}
use Rattle.blocked_tickets.specs.declared.admit_fault.AdmitFault.TheVariants.{Full, NumbersSpent, Memory}
use Rattle.blocked_tickets.specs.declared.unblock_fault.UnblockFault.{UnblockFault}
use Rattle.blocked_tickets.specs.declared.unblock_fault.UnblockFault.TheVariants.{Already, Closed, NeverIssued}
use Rattle.blocked_tickets.specs.TicketTable.{TicketTable, ticket_at, payload_of}

-- the most tickets that are held at one time
abbrev pub most_held : ℕ
most_held = 65536

-- there is room for a ticket, and a number
abbrev pub CanAdmit : TicketTable → Type 0
CanAdmit table = (map.len table.held < most_held) × (table.next < 2 ^ 64 - 1)

-- when a ticket is opened, and when each fault comes
abbrev pub AdmitCause : TicketTable → Result ℕ (AdmitFault × List ℕ) → Type 0
AdmitCause table (Ok number) = CanAdmit table
AdmitCause table (Err (Full, job)) = map.len table.held ≡ most_held
AdmitCause table (Err (NumbersSpent, job)) = (map.len table.held < most_held)
    × (table.next ≡ 2 ^ 64 - 1)
AdmitCause table (Err (Memory, job)) = CanAdmit table

-- when a ticket is unblocked, and when each fault comes
abbrev pub UnblockCause : TicketTable → ℕ → Result (Unit {0}) (UnblockFault × List ℕ) → Type 0
UnblockCause table number (Ok done) = IsSome (ticket_at table number)
    × (payload_of table number ≡ None)
UnblockCause table number (Err (Already, payload)) = IsSome (payload_of table number)
UnblockCause table number (Err (Closed, payload)) = (ticket_at table number ≡ None) × (0 < number)
    × (number < table.next)
UnblockCause table number (Err (NeverIssued, payload)) = (number ≡ 0) ⊎ (table.next ≤ number)
