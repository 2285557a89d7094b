-- Each step keeps what holds of the tickets. It serves the laws, and the invariant of `Tickets`.
use Rattle.std.proofs.Common.{◌≡◌, ℕ, ◌+◌, ◌<◌, ◌≤◌, ◌-◌, ◌==◌, Bool, true, false, cond, not, is_some, IsSome, List, Option, None, Some, refl, sym, ap, subst, ◌∙◌, arith, eqb-true}
use Rattle.std.specs.Ordering.{nat_cmp}
use Rattle.std.specs.Option.{option_and_then, option_map_or}
use Rattle.std.specs.Cmp.{nat_cmp_total}
use Rattle.std.specs.List.{IsDistinct}
use Rattle.std.specs.FinMap as map
use Rattle.std.proofs.lemmas.Bool.Decides.{nat_tests}
use Rattle.std.proofs.lemmas.Bool.{true≢false}
use Rattle.std.proofs.lemmas.Option.{none-some}
use Rattle.blocked_tickets.specs.declared.ticket.Phase.{Phase}
use Rattle.blocked_tickets.specs.declared.ticket.Phase.TheVariants.{Waiting, TimedOut, Gone}
use Rattle.blocked_tickets.specs.declared.ticket.Ticket.{Ticket}
use Rattle.blocked_tickets.specs.Kept.{Kept}
use Rattle.blocked_tickets.specs.Outcomes.{CanAdmit}
use Rattle.blocked_tickets.specs.Ticket.{new_ticket, turned, with_payload, waiter, is_waiting, while_waiting}
use Rattle.blocked_tickets.specs.TicketTable.{HeldMap, TicketTable, ticket_at, waiter_of, payload_of, no_tickets, admitted, changed, unblocked, closed, with_changed}
use Rattle.blocked_tickets.proofs.Agree.{stays}
use Rattle.blocked_tickets.proofs.Once.{once_push, once_filter, member_push, member_without}
use Rattle.blocked_tickets.proofs.Shown.{DiffersAt, reads, admitted_at, changed_at, closed_at}

abbrev payload : Ticket → Option (List ℕ)
payload t = t.payload

-- the next number is free
pub next_free : (table : TicketTable) → Kept table → ticket_at table table.next ≡ None
next_free table kept =
    elim (ticket_at table table.next) as (λ o. ticket_at table table.next ≡ o → o ≡ None) [
      | None ↦ λ _. refl
      | Some t ↦ λ is. let issued = kept.issued table.next (ap is_some is) in absurd (omega arith)
    ] refl

-- ---- how many

pub len_insert_new : {X : Type 0} (m : map.FinMap nat_cmp X) (k : ℕ) (v : X) → map.get m k ≡ None → map.len (map.insert m k v) ≡ map.len m + 1
len_insert_new m k v none = map.len-insert nat_cmp_total m k v ∙ ap (λ o. cond (is_some o) (map.len m) (map.len m + 1)) none

len_insert_old : {X : Type 0} (m : map.FinMap nat_cmp X) (k : ℕ) (v w : X) → map.get m k ≡ Some w → map.len (map.insert m k v) ≡ map.len m
len_insert_old m k v w some = map.len-insert nat_cmp_total m k v ∙ ap (λ o. cond (is_some o) (map.len m) (map.len m + 1)) some

pub len_changed : (held : HeldMap) (n : ℕ) (change : Ticket → Ticket) → map.len (with_changed held n change) ≡ map.len held
len_changed held n change =
    elim (map.get held n) as (λ o. map.get held n ≡ o → map.len (option_map_or (λ t. map.insert held n (change t)) o held) ≡ map.len held) [
      | None ↦ λ _. refl
      | Some t ↦ λ some. len_insert_old held n (change t) t some
    ] refl

pub len_removed : {X : Type 0} (m : map.FinMap nat_cmp X) (k : ℕ) → map.len (map.remove m k) ≤ map.len m
len_removed m k = let e = map.len-remove nat_cmp_total m k in rw e (fewer (map.contains_key m k) (map.len m))
  where
    fewer : (b : Bool) (n : ℕ) → cond b (n - 1) n ≤ n
    fewer true n = omega arith
    fewer false n = omega arith

-- ---- one waiting ticket a client

abbrev One : (ℕ → Option ℕ) → Type 0
One f = (c a b : ℕ) → f a ≡ Some c → f b ≡ Some c → a ≡ b

one_with : (f : ℕ → Option ℕ) (n : ℕ) (x : Option ℕ) → One f → ((c q : ℕ) → x ≡ Some c → f q ≡ Some c → q ≡ n)
    → (c a b : ℕ) → cond (a == n) x (f a) ≡ Some c → cond (b == n) x (f b) ≡ Some c → a ≡ b
one_with f n x one fresh c a b at_a at_b = let both = one c a b in let first = fresh c a in let second = fresh c b in grind (arith, nat_tests)

pub one_differs : (f g : ℕ → Option ℕ) (n : ℕ) (x : Option ℕ) → One f → ((c q : ℕ) → x ≡ Some c → f q ≡ Some c → q ≡ n)
    → ((q : ℕ) → g q ≡ cond (q == n) x (f q)) → One g
one_differs f g n x one fresh differs c a b at_a at_b = one_with f n x one fresh c a b (sym (differs a) ∙ at_a) (sym (differs b) ∙ at_b)

pub one_same : (f g : ℕ → Option ℕ) → One f → ((q : ℕ) → g q ≡ f q) → One g
one_same f g one same c a b at_a at_b = one c a b (sym (same a) ∙ at_a) (sym (same b) ∙ at_b)

-- ---- issued numbers

abbrev Issued : (ℕ → Option Ticket) → ℕ → Type 0
Issued h next = (q : ℕ) → IsSome (h q) → (0 < q) × (q < next)

issued_differs : (h k : ℕ → Option Ticket) (next later n : ℕ) (t : Option Ticket) → Issued h next → next ≤ later → (IsSome t → (0 < n) × (n < later))
    → ((q : ℕ) → k q ≡ cond (q == n) t (h q)) → Issued k later
issued_differs h k next later n t issued order fits differs q some =
    let at_q : IsSome (cond (q == n) t (h q)) = ap is_some (sym (differs q)) ∙ some in
    elim (q == n) as (λ b. (q == n) ≡ b → IsSome (cond b t (h q)) → (0 < q) × (q < later)) [
      | true ↦ λ here is. let same : q ≡ n = eqb-true q n here in let bounds = fits is in (omega arith, omega arith)
      | false ↦ λ apart is. let bounds = issued q is in (bounds.0, omega arith)
    ] refl at_q

-- ---- the steps

pub kept_new : Kept no_tickets
kept_new = record {
  issued = λ n some. absurd (true≢false (sym (sym (ap is_some (map.get-empty nat_cmp n)) ∙ some)));
  one_waiting = λ c a b at_a at_b. absurd (nothing a c at_a);
  ready_held = λ n. sym (ap (λ o. is_some (option_and_then (λ (t : Ticket). t.payload) o)) (map.get-empty nat_cmp n));
  ready_once = unfold IsDistinct in tt;
  few = rw map.len-empty (omega arith);
  next_fits = (omega arith, omega arith);
}
  where
    nothing : (a c : ℕ) → waiter_of no_tickets a ≡ Some c → ⊥
    nothing a c is = none-some c (sym (ap (option_and_then waiter) (map.get-empty nat_cmp a)) ∙ is)

pub kept_admitted : (table : TicketTable) (client place : ℕ) (job : List ℕ) (deadline : Option ℕ) → Kept table → CanAdmit table → ((q : ℕ) → waiter_of table q ≡ Some client → ⊥)
    → Kept (admitted table (new_ticket client place job deadline))
kept_admitted table client place job deadline kept can waits =
    let ticket = new_ticket client place job deadline in
    let new = admitted table ticket in
    let differs = admitted_at table ticket in
    let free = next_free table kept in
    let number = table.next in
    record {
      issued = issued_differs (ticket_at table) (ticket_at new) number (number + 1) number (Some ticket) kept.issued (omega arith) (λ _. (kept.next_fits.0, omega arith)) differs;
      one_waiting = one_differs (waiter_of table) (waiter_of new) number (Some client) kept.one_waiting (λ c q e is. absurd (waits q (is ∙ sym e))) (reads waiter table new number (Some ticket) differs);
      ready_held = λ q. kept.ready_held q
          ∙ ap is_some (sym (stays (payload_of table) (payload_of new) number None (reads payload table new number (Some ticket) differs) (ap (option_and_then payload) free) q));
      ready_once = kept.ready_once;
      few = let more = len_insert_new table.held number ticket free in omega arith;
      next_fits = (omega arith, let below = can.1 in omega arith);
    }

-- a ticket that is not held is not changed
unchanged : (table : TicketTable) (n : ℕ) (change : Ticket → Ticket) → ticket_at table n ≡ None → changed table n change ≡ table
unchanged table n change none = ap (λ o. record table { held = option_map_or (λ t. map.insert table.held n (change t)) o table.held }) none

pub ended : (phase : Phase) (x : Option ℕ) → is_waiting phase ≡ false → while_waiting phase x ≡ None
ended Waiting x ends = absurd (true≢false ends)
ended TimedOut x ends = refl
ended Gone x ends = refl

-- nobody waits on a ticket that was turned
pub turned_waits : (table : TicketTable) (n : ℕ) (phase : Phase) (ticket : Ticket) → is_waiting phase ≡ false → ticket_at table n ≡ Some ticket
    → (q : ℕ) → waiter_of (changed table n (turned phase)) q ≡ cond (q == n) None (waiter_of table q)
turned_waits table n phase ticket ends some q =
    reads waiter table (changed table n (turned phase)) n (Some (turned phase ticket)) (changed_at table.held n (turned phase) ticket some) q
    ∙ ap (λ x. cond (q == n) x (waiter_of table q)) (ended phase (Some ticket.client) ends)

kept_turned_held : (table : TicketTable) (n : ℕ) (phase : Phase) (ticket : Ticket) → Kept table → is_waiting phase ≡ false → ticket_at table n ≡ Some ticket → Kept (changed table n (turned phase))
kept_turned_held table n phase ticket kept ends some =
    let new = changed table n (turned phase) in
    let after = Some (turned phase ticket) in
    let differs : DiffersAt table new n after = changed_at table.held n (turned phase) ticket some in
    record {
      issued = issued_differs (ticket_at table) (ticket_at new) table.next table.next n after kept.issued (omega arith) (λ _. kept.issued n (ap is_some some)) differs;
      one_waiting = one_differs (waiter_of table) (waiter_of new) n None kept.one_waiting (λ c q e is. absurd (none-some c e)) (turned_waits table n phase ticket ends some);
      ready_held = λ q. kept.ready_held q
          ∙ ap is_some (sym (stays (payload_of table) (payload_of new) n ticket.payload (reads payload table new n after differs) (ap (option_and_then payload) some) q));
      ready_once = kept.ready_once;
      few = let same = len_changed table.held n (turned phase) in let few = kept.few in omega arith;
      next_fits = kept.next_fits;
    }

pub kept_turned : (table : TicketTable) (n : ℕ) (phase : Phase) → Kept table → is_waiting phase ≡ false → Kept (changed table n (turned phase))
kept_turned table n phase kept ends =
    elim (ticket_at table n) as (λ o. ticket_at table n ≡ o → Kept (changed table n (turned phase))) [
      | None ↦ λ none. subst Kept (sym (unchanged table n (turned phase) none)) kept
      | Some ticket ↦ λ some. kept_turned_held table n phase ticket kept ends some
    ] refl

is_some-cond : {A : Type 0} (b : Bool) (x : A) (o : Option A) → cond b true (is_some o) ≡ is_some (cond b (Some x) o)
is_some-cond true x o = refl
is_some-cond false x o = refl

is_some-cond_none : {A : Type 0} (b : Bool) (o : Option A) → cond b false (is_some o) ≡ is_some (cond b None o)
is_some-cond_none true o = refl
is_some-cond_none false o = refl

pub kept_unblocked : (table : TicketTable) (n : ℕ) (bytes : List ℕ) (ticket : Ticket) → Kept table → ticket_at table n ≡ Some ticket → payload_of table n ≡ None → Kept (unblocked table n bytes)
kept_unblocked table n bytes ticket kept some none =
    let new = unblocked table n bytes in
    let after = Some (with_payload bytes ticket) in
    let differs : DiffersAt table new n after = changed_at table.held n (with_payload bytes) ticket some in
    record {
      issued = issued_differs (ticket_at table) (ticket_at new) table.next table.next n after kept.issued (omega arith) (λ _. kept.issued n (ap is_some some)) differs;
      one_waiting = one_same (waiter_of table) (waiter_of new) kept.one_waiting (stays (waiter_of table) (waiter_of new) n (waiter ticket) (reads waiter table new n after differs) (ap (option_and_then waiter) some));
      ready_held = λ q. member_push table.ready n q ∙ ap (cond (q == n) true) (kept.ready_held q) ∙ is_some-cond (q == n) bytes (payload_of table q)
          ∙ ap is_some (sym (reads payload table new n after differs q));
      ready_once = once_push table.ready n kept.ready_once (kept.ready_held n ∙ ap is_some none);
      few = let same = len_changed table.held n (with_payload bytes) in let few = kept.few in omega arith;
      next_fits = kept.next_fits;
    }

pub kept_closed : (table : TicketTable) (n : ℕ) → Kept table → Kept (closed table n)
kept_closed table n kept =
    let new = closed table n in
    let differs : DiffersAt table new n None = closed_at table n in
    record {
      issued = issued_differs (ticket_at table) (ticket_at new) table.next table.next n None kept.issued (omega arith) (λ is. absurd (true≢false (sym is))) differs;
      one_waiting = one_differs (waiter_of table) (waiter_of new) n None kept.one_waiting (λ c q e is. absurd (none-some c e)) (reads waiter table new n None differs);
      ready_held = λ q. member_without table.ready n q ∙ ap (cond (q == n) false) (kept.ready_held q) ∙ is_some-cond_none (q == n) (payload_of table q)
          ∙ ap is_some (sym (reads payload table new n None differs q));
      ready_once = once_filter (λ x. not (x == n)) table.ready kept.ready_once;
      few = let fewer = len_removed table.held n in let few = kept.few in omega arith;
      next_fits = kept.next_fits;
    }
