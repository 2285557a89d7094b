-- What `ticket_of` and `due_at` find, and that the indexes find it too. It serves the clauses of
-- `due` and `gone`, and the laws on both.
use Rattle.std.proofs.Common.{◌≡◌, ◌⊎◌, inl, inr, ⊎_elim, ℕ, ◌<◌, ◌≤◌, ◌==◌, Bool, true, false, cond, List, [], ◌∷◌, filter, Option, None, Some, is_some, IsSome, nat_le, refl, sym, ap, subst, ◌∙◌, arith, leb-true, le-leb}
use Rattle.std.specs.declared.cmp.Ordering.{Ordering}
use Rattle.std.specs.declared.cmp.Ordering.TheVariants.{Less, Equal, Greater}
use Rattle.std.specs.Ordering.{nat_cmp, is_gt, ordering_then}
use Rattle.std.specs.Option.{MatchOption, IfSome, option_map, option_map_or, option_and_then}
use Rattle.std.specs.List.{AllByRecursion, find}
use Rattle.std.specs.Cmp.{nat_eq_equiv}
use Rattle.std.specs.FinMap as map
use Rattle.std.specs.FinSet as set
use Rattle.std.proofs.lemmas.Bool.{true≢false, false≢true}
use Rattle.std.proofs.lemmas.Bool.Decides.{nat_tests}
use Rattle.std.proofs.lemmas.Option.{option_and_then_some}
use Rattle.blocked_tickets.specs.declared.deadlines.Due.{Due}
use Rattle.blocked_tickets.specs.declared.ticket.Phase.TheVariants.{Gone}
use Rattle.blocked_tickets.specs.declared.ticket.Ticket.{Ticket}
use Rattle.blocked_tickets.specs.Due.{due_cmp, sooner, soonest}
use Rattle.blocked_tickets.specs.Laws.{TicketOfClient, FirstIsDue, IsDue, NoLater}
use Rattle.blocked_tickets.specs.Kept.{Kept}
use Rattle.blocked_tickets.specs.Ticket.{waiter, open_deadline, turned}
use Rattle.blocked_tickets.specs.TicketTable.{TicketTable, ticket_at, ticket_of, waiter_of, deadline_of, open_deadlines, due_at, changed, client_gone}
use Rattle.blocked_tickets.specs.inner.Earliest.{IsEarliest}
use Rattle.blocked_tickets.specs.inner.Indexed.{WaitersAgree}
use Rattle.blocked_tickets.proofs.Agree.{DuesAgree}
use Rattle.blocked_tickets.proofs.Keeps.{turned_waits}
use Rattle.blocked_tickets.proofs.Listed.{weaker, entries_found, found_entry, found_by, all_mapped, mapped_all, all_passing, passing_all}

-- ---- the ticket of a client

abbrev waits_for : ℕ → ℕ × Ticket → Bool
waits_for c e = option_map_or (λ d. d == c) (waiter e.1) false

named : (o : Option ℕ) (c : ℕ) → option_map_or (λ d. d == c) o false ≡ true → o ≡ Some c
named None c passes = absurd (false≢true passes)
named (Some d) c passes = grind (arith, nat_tests)

pub ticket_of_client : TicketOfClient
ticket_of_client table c =
    elim (find (waits_for c) (map.entries table.held)) as (λ o. MatchOption o (AllByRecursion (λ e. waits_for c e ≡ false) (map.entries table.held)) (λ e. (waits_for c e ≡ true) × (map.get table.held e.0 ≡ Some e.1))
    → MatchOption (option_map (λ e. e.0) o) ((n : ℕ) → waiter_of table n ≡ Some c → ⊥) (λ n. waiter_of table n ≡ Some c)) [
      | None ↦ λ none n is. option_and_then_some waiter (ticket_at table n) c is (λ t at waits.
          let passes : waits_for c (n, t) ≡ true = ap (λ o. option_map_or (λ d. d == c) o false) waits ∙ nat_eq_equiv.refl c in
          true≢false (sym passes ∙ found_entry table.held (λ e. waits_for c e ≡ false) n t none at))
      | Some e ↦ λ both. ap (option_and_then waiter) both.1 ∙ named (waiter e.1) c both.0
    ] (found_by (λ e. map.get table.held e.0 ≡ Some e.1) (waits_for c) (map.entries table.held) (entries_found table.held))

-- the index finds it
pub index_of_client : (w : map.FinMap nat_cmp ℕ) (table : TicketTable) (c : ℕ) → WaitersAgree w table → map.get w c ≡ ticket_of table c
index_of_client w table c agree =
    elim (ticket_of table c) as (λ o. MatchOption o ((n : ℕ) → waiter_of table n ≡ Some c → ⊥) (λ n. waiter_of table n ≡ Some c) → map.get w c ≡ o) [
      | None ↦ λ none. elim (map.get w c) as (λ o. map.get w c ≡ o → o ≡ None) [
        | None ↦ λ _. refl
        | Some n ↦ λ is. absurd (none n (agree.waits c n is))
      ] refl
      | Some n ↦ λ waits. agree.listed c n waits
    ] (ticket_of_client table c)

-- ---- the due ticket

-- none of the list comes before it
abbrev Leads : Due → List Due → Type 0
Leads due dues = AllByRecursion (λ d. NoLater due.deadline due.ticket d.deadline d.ticket) dues

order : (a b : Due) → (NoLater a.deadline a.ticket b.deadline b.ticket × (is_gt (due_cmp a b) ≡ false)) ⊎ (NoLater b.deadline b.ticket a.deadline a.ticket × (is_gt (due_cmp a b) ≡ true))
order a b = by (nat_cmp a.deadline b.deadline) refl (nat_cmp a.ticket b.ticket) refl
  where
    less : (x y : ℕ) → nat_cmp x y ≡ Less → x < y
    less x y e = grind (arith, nat_tests)

    equal : (x y : ℕ) → nat_cmp x y ≡ Equal → x ≡ y
    equal x y e = grind (arith, nat_tests)

    greater : (x y : ℕ) → nat_cmp x y ≡ Greater → y < x
    greater x y e = grind (arith, nat_tests)

    by : (x : Ordering) → nat_cmp a.deadline b.deadline ≡ x → (y : Ordering) → nat_cmp a.ticket b.ticket ≡ y
        → (NoLater a.deadline a.ticket b.deadline b.ticket × (is_gt (ordering_then x y) ≡ false)) ⊎ (NoLater b.deadline b.ticket a.deadline a.ticket × (is_gt (ordering_then x y) ≡ true))
    by Less e y f = inl (inl (less _ _ e), refl)
    by Greater e y f = inr (inl (greater _ _ e), refl)
    by Equal e Less f = inl (inr (equal _ _ e, let l = less a.ticket b.ticket f in omega arith), refl)
    by Equal e Equal f = inl (inr (equal _ _ e, let l = equal a.ticket b.ticket f in omega arith), refl)
    by Equal e Greater f = inr (inr (sym (equal _ _ e), let l = greater a.ticket b.ticket f in omega arith), refl)

through : (a b d : Due) → NoLater a.deadline a.ticket b.deadline b.ticket → NoLater b.deadline b.ticket d.deadline d.ticket → NoLater a.deadline a.ticket d.deadline d.ticket
through a b d (inl x) (inl y) = inl (omega arith)
through a b d (inl x) (inr y) = let same = y.0 in inl (omega arith)
through a b d (inr x) (inl y) = let same = x.0 in inl (omega arith)
through a b d (inr x) (inr y) = let first = x.1 in let second = y.1 in inr (x.0 ∙ y.0, omega arith)

leads_through : (a b : Due) (dues : List Due) → NoLater a.deadline a.ticket b.deadline b.ticket → Leads b dues → Leads a dues
leads_through a b dues before leads = weaker (λ d. NoLater b.deadline b.ticket d.deadline d.ticket) (λ d. NoLater a.deadline a.ticket d.deadline d.ticket) (λ d l. through a b d before l) dues leads

itself : (a : Due) → NoLater a.deadline a.ticket a.deadline a.ticket
itself a = inr (refl, omega arith)

-- the soonest has what all have, and comes first; where there is none the list is empty
soonest_leads : (P : Due → Type 0) (dues : List Due) → AllByRecursion P dues → MatchOption (soonest dues) (dues ≡ []) (λ d. P d × Leads d dues)
soonest_leads P [] all = refl
soonest_leads P (a ∷ dues) all =
    elim (soonest dues) as (λ o. MatchOption o (dues ≡ []) (λ d. P d × Leads d dues) → P (sooner a o) × Leads (sooner a o) (a ∷ dues)) [
      | None ↦ λ empty. (all.0, (itself a, subst (Leads a) (sym empty) tt))
      | Some b ↦ λ rest. ⊎_elim
          (λ first. let stays : a ≡ sooner a (Some b) = ap (λ t. cond t b a) (sym first.1) in
          subst (λ d. P d × Leads d (a ∷ dues)) stays (all.0, (itself a, leads_through a b dues first.0 rest.1)))
          (λ later. let goes : b ≡ sooner a (Some b) = ap (λ t. cond t b a) (sym later.1) in
          subst (λ d. P d × Leads d (a ∷ dues)) goes (rest.0, (later.0, rest.1)))
          (order a b)
    ] (soonest_leads P dues all.1)

abbrev due_of : ℕ → ℕ → Due
due_of deadline ticket = record { deadline = deadline; ticket = ticket }

abbrev opens : ℕ × Ticket → Option Due
opens e = option_map (λ d. due_of d e.0) (open_deadline e.1)

-- each of the open deadlines is that of its ticket,
all_open : (table : TicketTable) → AllByRecursion (λ due. deadline_of table due.ticket ≡ Some due.deadline) (open_deadlines table)
all_open table =
    mapped_all (λ due. deadline_of table due.ticket ≡ Some due.deadline) opens (map.entries table.held)
    (weaker (λ e. map.get table.held e.0 ≡ Some e.1) (λ e. IfSome (opens e) (λ due. deadline_of table due.ticket ≡ Some due.deadline))
    (λ e at. elim (open_deadline e.1) as (λ o. open_deadline e.1 ≡ o → IfSome (option_map (λ d. due_of d e.0) o) (λ due. deadline_of table due.ticket ≡ Some due.deadline)) [
      | None ↦ λ _. tt
      | Some d ↦ λ is. ap (option_and_then open_deadline) at ∙ is
    ] refl)
    (map.entries table.held) (entries_found table.held))

-- and what holds of each of them holds of a ticket's
open_all : (table : TicketTable) (P : Due → Type 0) → AllByRecursion P (open_deadlines table) → (n d : ℕ) → deadline_of table n ≡ Some d → P (due_of d n)
open_all table P all n d is =
    option_and_then_some open_deadline (ticket_at table n) d is (λ t at opened.
    subst (λ o. IfSome (option_map (λ d. due_of d n) o) P) opened (found_entry table.held (λ e. IfSome (opens e) P) n t (all_mapped P opens (map.entries table.held) all) at))

abbrev come : ℕ → Due → Bool
come now due = nat_le due.deadline now

pub first_is_due : FirstIsDue
first_is_due table now =
    let P : Due → Type 0 = λ due. deadline_of table due.ticket ≡ Some due.deadline in
    let dues = filter (come now) (open_deadlines table) in
    elim (soonest dues) as (λ o. MatchOption o (dues ≡ []) (λ d. (P d × (come now d ≡ true)) × Leads d dues)
    → MatchOption (option_map (λ due. due.ticket) o) ((n d : ℕ) → IsDue table now n d → ⊥)
    (λ first. (deadline : ℕ) × IsDue table now first deadline × ((n d : ℕ) → IsDue table now n d → NoLater deadline first d n))) [
      | None ↦ λ empty n d due.
          open_all table (λ x. come now x ≡ true → ⊥) (all_passing (λ _. ⊥) (come now) (open_deadlines table) (subst (AllByRecursion (λ _. ⊥)) (sym empty) tt)) n d due.0 (le-leb d now due.1)
      | Some f ↦ λ found. (
        f.deadline,
        (found.0.0, leb-true f.deadline now found.0.1),
        λ n d due.
            open_all table (λ x. come now x ≡ true → NoLater f.deadline f.ticket x.deadline x.ticket)
            (all_passing (λ x. NoLater f.deadline f.ticket x.deadline x.ticket) (come now) (open_deadlines table) found.1) n d due.0 (le-leb d now due.1),
      )
    ] (soonest_leads (λ d. P d × (come now d ≡ true)) dues (passing_all P (come now) (open_deadlines table) (all_open table)))

-- the earliest of the index, where its deadline has come
abbrev pub first_now : ℕ → Option Due → Option ℕ
first_now now first = option_and_then (λ d. cond (nat_le d.deadline now) (Some d.ticket) None) first

-- one that is not after another comes no later
no_later : (a b : Due) → is_gt (due_cmp a b) ≡ false → NoLater a.deadline a.ticket b.deadline b.ticket
no_later a b e = ⊎_elim (λ first. first.0) (λ later. absurd (true≢false (sym later.1 ∙ e))) (order a b)

-- two that come no later than each other are of one ticket
same_ticket : (d n e m : ℕ) → NoLater d n e m → NoLater e m d n → n ≡ m
same_ticket d n e m (inl x) (inl y) = absurd (omega arith)
same_ticket d n e m (inl x) (inr y) = let same = y.0 in absurd (omega arith)
same_ticket d n e m (inr x) (inl y) = let same = x.0 in absurd (omega arith)
same_ticket d n e m (inr x) (inr y) = let first = x.1 in let second = y.1 in omega arith

not_past : (d n e m now : ℕ) → NoLater d n e m → e ≤ now → d ≤ now
not_past d n e m now (inl x) le = omega arith
not_past d n e m now (inr x) le = let same = x.0 in omega arith

pub index_of_due : (dues : set.FinSet due_cmp) (table : TicketTable) (now : ℕ) (first : Option Due) → DuesAgree dues table → IsEarliest dues first → first_now now first ≡ due_at table now
index_of_due dues table now first agree earliest =
    elim (due_at table now) as (λ o. MatchOption o ((n d : ℕ) → IsDue table now n d → ⊥) (λ n. (d : ℕ) × IsDue table now n d × ((m e : ℕ) → IsDue table now m e → NoLater d n e m)) → first_now now first ≡ o) [
      | None ↦ λ none. no_due first earliest none
      | Some n ↦ λ found. some_due first earliest n found.0 found.1 found.2
    ] (first_is_due table now)
  where
    held : (due : Due) → set.contains dues due ≡ true → deadline_of table due.ticket ≡ Some due.deadline
    held due there = named (deadline_of table due.ticket) due.deadline (sym (agree due) ∙ there)

    there : (n d : ℕ) → deadline_of table n ≡ Some d → set.contains dues (due_of d n) ≡ true
    there n d is = agree (due_of d n) ∙ ap (λ o. option_map_or (λ x. x == d) o false) is ∙ nat_eq_equiv.refl d

    no_due : (r : Option Due) → IsEarliest dues r → ((n d : ℕ) → IsDue table now n d → ⊥) → first_now now r ≡ None
    no_due None e none = refl
    no_due (Some a) e none =
        elim (nat_le a.deadline now) as (λ b. nat_le a.deadline now ≡ b → cond b (Some a.ticket) None ≡ None) [
          | true ↦ λ past. absurd (none a.ticket a.deadline (held a e.0, leb-true a.deadline now past))
          | false ↦ λ _. refl
        ] refl

    some_due : (r : Option Due) → IsEarliest dues r → (n d : ℕ) → IsDue table now n d → ((m e : ℕ) → IsDue table now m e → NoLater d n e m) → first_now now r ≡ Some n
    some_due None e n d due leads = absurd (true≢false (sym (there n d due.0) ∙ e (due_of d n)))
    some_due (Some a) e n d due leads =
        let before : NoLater a.deadline a.ticket d n = no_later a (due_of d n) (e.1 (due_of d n) (there n d due.0)) in
        let past : a.deadline ≤ now = not_past a.deadline a.ticket d n now before due.1 in
        ap (λ b. cond b (Some a.ticket) None) (le-leb a.deadline now past)
        ∙ ap Some (same_ticket a.deadline a.ticket d n before (leads a.ticket a.deadline (held a e.0, past)))

-- the due ticket can time out
pub due_can : (table : TicketTable) (now : ℕ) → IfSome (due_at table now) (λ n. IsSome (deadline_of table n))
due_can table now =
    elim (due_at table now) as (λ o. MatchOption o ((n d : ℕ) → IsDue table now n d → ⊥) (λ n. (d : ℕ) × IsDue table now n d × ((m e : ℕ) → IsDue table now m e → NoLater d n e m)) → IfSome o (λ n. IsSome (deadline_of table n))) [
      | None ↦ λ _. tt
      | Some n ↦ λ found. ap is_some found.1.0
    ] (first_is_due table now)

-- a client that is gone waits on no ticket
pub gone_waits_no_more : (table : TicketTable) (c : ℕ) → Kept table → ticket_of (client_gone table c) c ≡ None
gone_waits_no_more table c kept =
    elim (ticket_of table c) as (λ o. ticket_of table c ≡ o → MatchOption o ((n : ℕ) → waiter_of table n ≡ Some c → ⊥) (λ n. waiter_of table n ≡ Some c)
    → ticket_of (option_map_or (λ n. changed table n (turned Gone)) o table) c ≡ None) [
      | None ↦ λ none _. none
      | Some n ↦ λ _ waited. nobody (changed table n (turned Gone)) (λ m is. option_and_then_some waiter (ticket_at table n) c waited (λ t at _.
          let differs = turned_waits table n Gone t refl at m in
          left (waiter_of table) n m (kept.one_waiting c m n) waited (sym differs ∙ is)))
    ] refl (ticket_of_client table c)
  where
    left : (f : ℕ → Option ℕ) (n m : ℕ) → (f m ≡ Some c → f n ≡ Some c → m ≡ n) → f n ≡ Some c → cond (m == n) None (f m) ≡ Some c → ⊥
    left f n m one waited is = grind (arith, nat_tests)

    nobody : (after : TicketTable) → ((m : ℕ) → waiter_of after m ≡ Some c → ⊥) → ticket_of after c ≡ None
    nobody after none =
        elim (ticket_of after c) as (λ o. MatchOption o ((n : ℕ) → waiter_of after n ≡ Some c → ⊥) (λ n. waiter_of after n ≡ Some c) → o ≡ None) [
          | None ↦ λ _. refl
          | Some m ↦ λ waits. absurd (none m waits)
        ] (ticket_of_client after c)
