-- The indexes agree after each step. It serves the invariant of `Tickets`.
use Rattle.std.proofs.Common.{◌≡◌, ℕ, ◌+◌, ◌≤◌, ◌==◌, true, false, cond, is_some, List, Option, None, Some, refl, sym, ap, subst, ◌∙◌, arith}
use Rattle.std.specs.Ordering.{nat_cmp}
use Rattle.std.specs.Option.{option_and_then, option_map_or}
use Rattle.std.specs.FinMap as map
use Rattle.std.specs.FinSet as set
use Rattle.std.proofs.lemmas.Bool.{false≢true}
use Rattle.std.proofs.lemmas.Option.{none-some}
use Rattle.blocked_tickets.specs.declared.ticket.Phase.{Phase}
use Rattle.blocked_tickets.specs.declared.ticket.Phase.TheVariants.{Waiting, TimedOut, Gone}
use Rattle.blocked_tickets.specs.declared.ticket.Ticket.{Ticket}
use Rattle.blocked_tickets.specs.Due.{due_cmp}
use Rattle.blocked_tickets.specs.Kept.{Kept}
use Rattle.blocked_tickets.specs.Outcomes.{CanAdmit}
use Rattle.blocked_tickets.specs.Ticket.{new_ticket, turned, with_payload, waiter, open_deadline, is_waiting, while_waiting, unless_unblocked}
use Rattle.blocked_tickets.specs.TicketTable.{TicketTable, ticket_at, waiter_of, deadline_of, no_tickets, admitted, changed, unblocked, closed}
use Rattle.blocked_tickets.specs.inner.Entering.{with_deadline, without_deadline, without_client}
use Rattle.blocked_tickets.specs.inner.Indexed.{Indexed}
use Rattle.blocked_tickets.proofs.Agree.{agree_same, agree_with, agree_without, dues_same, dues_with, dues_without, stays}
use Rattle.blocked_tickets.proofs.Keeps.{kept_new, kept_admitted, kept_unblocked, kept_turned, kept_closed, len_changed, len_insert_new, len_removed, next_free, ended, turned_waits}
use Rattle.blocked_tickets.proofs.Shown.{DiffersAt, reads, admitted_at, changed_at, closed_at}

while_none : (phase : Phase) → while_waiting phase None ≡ None
while_none Waiting = refl
while_none TimedOut = refl
while_none Gone = refl

-- the indexes agree where they are the same, with no less room
pub moved : (w w' : map.FinMap nat_cmp ℕ) (s s' : set.FinSet due_cmp) (room room' : ℕ) (table table' : TicketTable)
    → w' ≡ w → s' ≡ s → room ≤ room' → table' ≡ table → Indexed w s room table → Indexed w' s' room' table'
moved w w' s s' room room' table table' same_w same_s more same indexed =
    let wider : Indexed w s room' table = record { kept = indexed.kept; clients = indexed.clients; dues = indexed.dues; places = let places = indexed.places in omega arith } in
    subst (λ x. Indexed x s' room' table') (sym same_w) (subst (λ x. Indexed w x room' table') (sym same_s) (subst (Indexed w s room') (sym same) wider))

pub indexed_new : (room : ℕ) → Indexed map.empty set.empty room no_tickets
indexed_new room = record {
  kept = kept_new;
  clients = record {
    listed = λ c n is. absurd (false≢true (ap (λ o. is_some (option_and_then waiter o)) (sym (map.get-empty nat_cmp n)) ∙ ap is_some is));
    waits = λ c n is. absurd (false≢true (ap is_some (sym (map.get-empty nat_cmp c)) ∙ ap is_some is));
  };
  dues = λ due. set.contains-empty due_cmp due ∙ ap (λ o. option_map_or (λ d. d == due.deadline) (option_and_then open_deadline o) false) (sym (map.get-empty nat_cmp due.ticket));
  places = rw map.len-empty (omega arith);
}

pub indexed_admitted : (w : map.FinMap nat_cmp ℕ) (s : set.FinSet due_cmp) (room : ℕ) (table : TicketTable) (ticket : Ticket)
    → Indexed w s room table → map.get w ticket.client ≡ None → CanAdmit table → map.len table.held + 1 ≤ room
    → ticket ≡ new_ticket ticket.client ticket.place ticket.job ticket.deadline
    → Indexed (map.insert w ticket.client table.next) (with_deadline s table.next ticket.deadline) room (admitted table ticket)
indexed_admitted w s room table ticket indexed no_ticket can fits new =
    let client = ticket.client in
    let nobody : (q : ℕ) → waiter_of table q ≡ Some client → ⊥ = λ q is. none-some q (sym no_ticket ∙ indexed.clients.listed client q is) in
    let differs = admitted_at table ticket in
    let free = next_free table indexed.kept in
    let after = admitted table ticket in
    let waits : waiter ticket ≡ Some client = ap waiter new in
    let opens : open_deadline ticket ≡ ticket.deadline = ap open_deadline new in
    record {
      kept = subst (λ t. Kept (admitted table t)) (sym new) (kept_admitted table client ticket.place ticket.job ticket.deadline indexed.kept can nobody);
      clients = agree_with w table after table.next client indexed.clients no_ticket (ap (option_and_then waiter) free)
          (λ q. reads waiter table after table.next (Some ticket) differs q ∙ ap (λ x. cond (q == table.next) x (waiter_of table q)) waits);
      dues = dues_with s table after table.next ticket.deadline indexed.dues (ap (option_and_then open_deadline) free)
          (λ q. reads open_deadline table after table.next (Some ticket) differs q ∙ ap (λ x. cond (q == table.next) x (deadline_of table q)) opens);
      places = let more = len_insert_new table.held table.next ticket free in omega arith;
    }

pub indexed_unblocked : (w : map.FinMap nat_cmp ℕ) (s : set.FinSet due_cmp) (room : ℕ) (table : TicketTable) (n : ℕ) (bytes : List ℕ) (ticket : Ticket)
    → Indexed w s room table → ticket_at table n ≡ Some ticket → ticket.payload ≡ None
    → Indexed w (without_deadline s n (deadline_of table n)) room (unblocked table n bytes)
indexed_unblocked w s room table n bytes ticket indexed some none =
    let new = unblocked table n bytes in
    let after = Some (with_payload bytes ticket) in
    let differs : DiffersAt table new n after = changed_at table.held n (with_payload bytes) ticket some in
    record {
      kept = kept_unblocked table n bytes ticket indexed.kept some (ap (option_and_then (λ (t : Ticket). t.payload)) some ∙ none);
      clients = agree_same w table new indexed.clients (stays (waiter_of table) (waiter_of new) n (waiter ticket) (reads waiter table new n after differs) (ap (option_and_then waiter) some));
      dues = dues_without s table new n indexed.dues (λ q. reads open_deadline table new n after differs q ∙ ap (λ x. cond (q == n) x (deadline_of table q)) (while_none ticket.phase));
      places = let same = len_changed table.held n (with_payload bytes) in let places = indexed.places in omega arith;
    }

pub indexed_turned : (w : map.FinMap nat_cmp ℕ) (s : set.FinSet due_cmp) (room : ℕ) (table : TicketTable) (n : ℕ) (phase : Phase) (ticket : Ticket)
    → Indexed w s room table → ticket_at table n ≡ Some ticket → is_waiting phase ≡ false
    → Indexed (without_client w (waiter_of table n)) (without_deadline s n (deadline_of table n)) room (changed table n (turned phase))
indexed_turned w s room table n phase ticket indexed some ends =
    let new = changed table n (turned phase) in
    let after = Some (turned phase ticket) in
    let differs : DiffersAt table new n after = changed_at table.held n (turned phase) ticket some in
    record {
      kept = kept_turned table n phase indexed.kept ends;
      clients = agree_without w table new n indexed.clients (turned_waits table n phase ticket ends some);
      dues = dues_without s table new n indexed.dues
          (λ q. reads open_deadline table new n after differs q ∙ ap (λ x. cond (q == n) x (deadline_of table q)) (ended phase (unless_unblocked ticket.payload ticket.deadline) ends));
      places = let same = len_changed table.held n (turned phase) in let places = indexed.places in omega arith;
    }

no_deadline : (phase : Phase) (payload : Option (List ℕ)) (deadline : Option ℕ) → is_some payload ≡ true → while_waiting phase (unless_unblocked payload deadline) ≡ None
no_deadline phase None deadline is = absurd (false≢true is)
no_deadline phase (Some bytes) deadline is = while_none phase

pub indexed_closed : (w : map.FinMap nat_cmp ℕ) (s : set.FinSet due_cmp) (room : ℕ) (table : TicketTable) (n : ℕ) (ticket : Ticket)
    → Indexed w s room table → ticket_at table n ≡ Some ticket → is_some ticket.payload ≡ true
    → Indexed (without_client w (waiter_of table n)) s room (closed table n)
indexed_closed w s room table n ticket indexed some unblocked_it =
    let new = closed table n in
    let differs : DiffersAt table new n None = closed_at table n in
    record {
      kept = kept_closed table n indexed.kept;
      clients = agree_without w table new n indexed.clients (reads waiter table new n None differs);
      dues = dues_same s table new indexed.dues (stays (deadline_of table) (deadline_of new) n None (reads open_deadline table new n None differs)
          (ap (option_and_then open_deadline) some ∙ no_deadline ticket.phase ticket.payload ticket.deadline unblocked_it));
      places = let fewer = len_removed table.held n in let places = indexed.places in omega arith;
    }
