-- What a table shows at each number after a step. It serves the clauses of `Tickets` on what each
-- call leaves, and the invariant.
use Rattle.std.proofs.Common.{◌≡◌, ℕ, ◌==◌, Bool, true, false, cond, Option, None, Some, refl, sym, ap, ◌∙◌, eqb-true}
use Rattle.std.specs.Ordering.{nat_cmp}
use Rattle.std.specs.Option.{option_and_then, option_map_or}
use Rattle.std.specs.Cmp.{nat_cmp_total, unsigned_tied}
use Rattle.std.specs.FinMap as map
use Rattle.blocked_tickets.specs.declared.ticket.Ticket.{Ticket}
use Rattle.blocked_tickets.specs.TicketTable.{HeldMap, TicketTable, ticket_at, admitted, closed, with_changed}

-- the new table has this at one number, and at each other number what the old one has
abbrev pub DiffersAt : TicketTable → TicketTable → ℕ → Option Ticket → Type 0
DiffersAt old new number ticket = (q : ℕ) → ticket_at new q ≡ cond (q == number) ticket (ticket_at old q)

pub get-insert : {X : Type 0} (m : map.FinMap nat_cmp X) (k : ℕ) (v : X) (q : ℕ) → map.get (map.insert m k v) q ≡ cond (q == k) (Some v) (map.get m q)
get-insert m k v q = map.get-insert nat_cmp_total m k v q ∙ ap (λ b. cond b (Some v) (map.get m q)) (unsigned_tied q k)

pub get-remove : {X : Type 0} (m : map.FinMap nat_cmp X) (k : ℕ) (q : ℕ) → map.get (map.remove m k) q ≡ cond (q == k) None (map.get m q)
get-remove m k q = map.get-remove nat_cmp_total m k q ∙ ap (λ b. cond b None (map.get m q)) (unsigned_tied q k)

pub admitted_at : (table : TicketTable) (ticket : Ticket) → DiffersAt table (admitted table ticket) table.next (Some ticket)
admitted_at table ticket q = get-insert table.held table.next ticket q

pub with_changed_held : (held : HeldMap) (n : ℕ) (change : Ticket → Ticket) (ticket : Ticket) → map.get held n ≡ Some ticket → with_changed held n change ≡ map.insert held n (change ticket)
with_changed_held held n change ticket is = ap (λ o. option_map_or (λ t. map.insert held n (change t)) o held) is

pub changed_at : (held : HeldMap) (n : ℕ) (change : Ticket → Ticket) (ticket : Ticket) → map.get held n ≡ Some ticket
    → (q : ℕ) → map.get (with_changed held n change) q ≡ cond (q == n) (Some (change ticket)) (map.get held q)
changed_at held n change ticket is q = ap (λ m. map.get m q) (with_changed_held held n change ticket is) ∙ get-insert held n (change ticket) q

pub closed_at : (table : TicketTable) (n : ℕ) → DiffersAt table (closed table n) n None
closed_at table n q = get-remove table.held n q

-- what is read of the tickets differs at the same number
pub read_at : {A : Type 0} (read : Ticket → Option A) (b : Bool) (t u : Option Ticket) → option_and_then read (cond b t u) ≡ cond b (option_and_then read t) (option_and_then read u)
read_at read true t u = refl
read_at read false t u = refl

pub reads : {A : Type 0} (read : Ticket → Option A) (old new : TicketTable) (n : ℕ) (ticket : Option Ticket) → DiffersAt old new n ticket
    → (q : ℕ) → option_and_then read (ticket_at new q) ≡ cond (q == n) (option_and_then read ticket) (option_and_then read (ticket_at old q))
reads read old new n ticket differs q = ap (option_and_then read) (differs q) ∙ read_at read (q == n) ticket (ticket_at old q)

-- what was put in at a free key and taken out leaves the map as it was
twice : {X : Type 0} (b : Bool) (v : X) (o : Option X) → (b ≡ true → o ≡ None) → cond b None (cond b (Some v) o) ≡ o
twice true v o free = sym (free refl)
twice false v o free = refl

pub put_and_taken : {X : Type 0} (m : map.FinMap nat_cmp X) (k : ℕ) (v : X) → map.get m k ≡ None → map.remove (map.insert m k v) k ≡ m
put_and_taken m k v free = map.same_map nat_cmp_total map.nat_cmp-IsAntisymmetric _ _ (λ q.
    get-remove (map.insert m k v) k q ∙ ap (cond (q == k) None) (get-insert m k v q)
    ∙ twice (q == k) v (map.get m q) (λ here. ap (map.get m) (eqb-true q k here) ∙ free))
