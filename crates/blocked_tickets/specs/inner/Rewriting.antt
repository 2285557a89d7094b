-- A tree of tickets after one ticket was changed in its place.
use Rattle.std.specs.Prelude.{◌≡◌, ℕ, Some}
use Rattle.std.specs.Option.{MatchOption}
use Rattle.std.specs.Ordering.{nat_cmp}
use Rattle.std.specs.BTreeMap.{BTreeMap, get, Updates}
use Rattle.blocked_tickets.specs.declared.ticket.Ticket.{Ticket}

-- the ticket of a number is changed, where it is there, and nothing else
abbrev pub Rewrites : BTreeMap ℕ Ticket → BTreeMap ℕ Ticket → ℕ → (Ticket → Ticket) → Type 0
Rewrites old new number change =
    MatchOption (get nat_cmp old number) (new.entries ≡ old.entries)
    (λ ticket. Updates nat_cmp old new number (Some (change ticket)))
