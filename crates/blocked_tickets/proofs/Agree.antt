-- The indexes agree after a step where they did before. It serves the invariant of `Tickets`.
use Rattle.std.proofs.Common.{◌≡◌, ℕ, ◌==◌, Bool, true, false, cond, not, ◌||◌, ◌&&◌, Option, None, Some, refl, sym, ap, ◌∙◌, arith, eqb-true}
use Rattle.std.specs.declared.cmp.Ordering.{Ordering}
use Rattle.std.specs.declared.cmp.Ordering.TheVariants.{Less, Equal, Greater}
use Rattle.std.specs.Ordering.{nat_cmp, is_eq, eq_by_cmp, ordering_then}
use Rattle.std.specs.Cmp.{nat_eq_equiv, unsigned_tied}
use Rattle.std.specs.Option.{option_map_or}
use Rattle.std.specs.FinMap as map
use Rattle.std.specs.FinSet as set
use Rattle.std.proofs.lemmas.Bool.Decides.{nat_tests}
use Rattle.std.proofs.lemmas.Map.Views.{tells_apart}
use Rattle.blocked_tickets.specs.declared.deadlines.Due.{Due}
use Rattle.blocked_tickets.specs.Due.{due_cmp}
use Rattle.blocked_tickets.specs.TicketTable.{TicketTable, waiter_of, deadline_of}
use Rattle.blocked_tickets.specs.inner.Entering.{with_deadline, without_deadline, without_client}
use Rattle.blocked_tickets.specs.inner.Indexed.{WaitersAgree, has_deadline}
use Rattle.blocked_tickets.proofs.Dues.{due_total, due_exact}
use Rattle.blocked_tickets.proofs.Shown.{get-insert, get-remove}

-- a client of a ticket, and a ticket of a client
abbrev pub Inverse : (ℕ → Option ℕ) → (ℕ → Option ℕ) → Type 0
Inverse w f = (c n : ℕ) → ((f n ≡ Some c) → w c ≡ Some n) × ((w c ≡ Some n) → f n ≡ Some c)

-- a new ticket of a client that had none
pub with_lists : (w f : ℕ → Option ℕ) (c n d q : ℕ) → Inverse w f → w c ≡ None → f n ≡ None
    → cond (q == n) (Some c) (f q) ≡ Some d → cond (d == c) (Some n) (w d) ≡ Some q
with_lists w f c n d q agree no_ticket no_client is = let here = agree d q in grind (arith, nat_tests)

pub with_waits : (w f : ℕ → Option ℕ) (c n d q : ℕ) → Inverse w f → w c ≡ None → f n ≡ None
    → cond (d == c) (Some n) (w d) ≡ Some q → cond (q == n) (Some c) (f q) ≡ Some d
with_waits w f c n d q agree no_ticket no_client is = let here = agree d q in grind (arith, nat_tests)

-- the ticket of a client that waited is no more
pub without_lists : (w f : ℕ → Option ℕ) (c n d q : ℕ) → Inverse w f → f n ≡ Some c
    → cond (q == n) None (f q) ≡ Some d → cond (d == c) None (w d) ≡ Some q
without_lists w f c n d q agree waited is = let here = agree d q in let there = agree c n in let other = agree c q in grind (arith, nat_tests)

pub without_waits : (w f : ℕ → Option ℕ) (c n d q : ℕ) → Inverse w f → f n ≡ Some c
    → cond (d == c) None (w d) ≡ Some q → cond (q == n) None (f q) ≡ Some d
without_waits w f c n d q agree waited is = let here = agree d q in let there = agree c n in grind (arith, nat_tests)

same_at : {A : Type 0} (f : ℕ → Option A) (n : ℕ) (x : Option A) → f n ≡ x → (q : ℕ) → cond (q == n) x (f q) ≡ f q
same_at f n x is q = grind (arith, nat_tests)

-- what is read stays where the change does not touch it
pub stays : {A : Type 0} (f g : ℕ → Option A) (n : ℕ) (x : Option A) → ((q : ℕ) → g q ≡ cond (q == n) x (f q)) → f n ≡ x → (q : ℕ) → g q ≡ f q
stays f g n x differs is q = differs q ∙ same_at f n x is q

inverse : (w : map.FinMap nat_cmp ℕ) (table : TicketTable) → WaitersAgree w table → Inverse (map.get w) (waiter_of table)
inverse w table agree c n = (agree.listed c n, agree.waits c n)

pub agree_same : (w : map.FinMap nat_cmp ℕ) (old new : TicketTable) → WaitersAgree w old → ((q : ℕ) → waiter_of new q ≡ waiter_of old q) → WaitersAgree w new
agree_same w old new agree same = record { listed = λ c q is. agree.listed c q (sym (same q) ∙ is); waits = λ c q is. same q ∙ agree.waits c q is }

pub agree_with : (w : map.FinMap nat_cmp ℕ) (old new : TicketTable) (n c : ℕ) → WaitersAgree w old → map.get w c ≡ None → waiter_of old n ≡ None
    → ((q : ℕ) → waiter_of new q ≡ cond (q == n) (Some c) (waiter_of old q)) → WaitersAgree (map.insert w c n) new
agree_with w old new n c agree no_ticket no_client differs =
    let f = waiter_of old in
    let both = inverse w old agree in
    record {
      listed = λ d q is. get-insert w c n d ∙ with_lists (map.get w) f c n d q both no_ticket no_client (sym (differs q) ∙ is);
      waits = λ d q is. differs q ∙ with_waits (map.get w) f c n d q both no_ticket no_client (sym (get-insert w c n d) ∙ is);
    }

pub agree_without : (w : map.FinMap nat_cmp ℕ) (old new : TicketTable) (n : ℕ) → WaitersAgree w old
    → ((q : ℕ) → waiter_of new q ≡ cond (q == n) None (waiter_of old q)) → WaitersAgree (without_client w (waiter_of old n)) new
agree_without w old new n agree differs =
    let f = waiter_of old in
    let both = inverse w old agree in
    elim (waiter_of old n) as (λ o. waiter_of old n ≡ o → WaitersAgree (without_client w o) new) [
      | None ↦ λ none. agree_same w old new agree (stays f (waiter_of new) n None differs none)
      | Some c ↦ λ waited. record {
        listed = λ d q is. get-remove w c d ∙ without_lists (map.get w) f c n d q both waited (sym (differs q) ∙ is);
        waits = λ d q is. differs q ∙ without_waits (map.get w) f c n d q both waited (sym (get-remove w c d) ∙ is);
      }
    ] refl

-- ---- the deadlines

abbrev has : Option ℕ → ℕ → Bool
has o x = option_map_or (λ d. d == x) o false

has_with : (g : ℕ → Option ℕ) (n d x q : ℕ) → g n ≡ None → (((x == d) && (q == n)) || has (g q) x) ≡ has (cond (q == n) (Some d) (g q)) x
has_with g n d x q none =
    elim (q == n) as (λ b. (q == n) ≡ b → (((x == d) && b) || has (g q) x) ≡ has (cond b (Some d) (g q)) x) [
      | true ↦ λ here. let none_here : g q ≡ None = ap g (eqb-true q n here) ∙ none in
          ap (λ o. ((x == d) && true) || has o x) none_here ∙ turned (x == d) (d == x) (nat_eq_equiv.symm x d)
      | false ↦ λ apart. ap (λ b. b || has (g q) x) (never (x == d))
    ] refl
  where
    turned : (a b : Bool) → a ≡ b → ((a && true) || false) ≡ b
    turned true b e = e
    turned false b e = e

    never : (a : Bool) → (a && false) ≡ false
    never true = refl
    never false = refl

has_without : (g : ℕ → Option ℕ) (n d x q : ℕ) → g n ≡ Some d → (not ((x == d) && (q == n)) && has (g q) x) ≡ has (cond (q == n) None (g q)) x
has_without g n d x q some =
    elim (q == n) as (λ b. (q == n) ≡ b → (not ((x == d) && b) && has (g q) x) ≡ has (cond b None (g q)) x) [
      | true ↦ λ here. let here_too : g q ≡ Some d = ap g (eqb-true q n here) ∙ some in
          ap (λ o. not ((x == d) && true) && has o x) here_too ∙ turned (x == d) (d == x) (nat_eq_equiv.symm x d)
      | false ↦ λ apart. ap (λ b. not b && has (g q) x) (never (x == d))
    ] refl
  where
    turned : (a b : Bool) → a ≡ b → (not (a && true) && b) ≡ false
    turned true b e = refl
    turned false b e = sym e

    never : (a : Bool) → (a && false) ≡ false
    never true = refl
    never false = refl

is_eq-then : (x y : Ordering) → is_eq (ordering_then x y) ≡ (is_eq x && is_eq y)
is_eq-then Less y = refl
is_eq-then Equal y = refl
is_eq-then Greater y = refl

-- two dues tie where their numbers are the same
tied : (a b : Due) → eq_by_cmp due_cmp a b ≡ ((a.deadline == b.deadline) && (a.ticket == b.ticket))
tied a b =
    is_eq-then (nat_cmp a.deadline b.deadline) (nat_cmp a.ticket b.ticket)
    ∙ ap (λ x. x && is_eq (nat_cmp a.ticket b.ticket)) (unsigned_tied a.deadline b.deadline)
    ∙ ap (λ x. (a.deadline == b.deadline) && x) (unsigned_tied a.ticket b.ticket)

-- the deadlines agree
abbrev pub DuesAgree : set.FinSet due_cmp → TicketTable → Type 0
DuesAgree dues table = (due : Due) → set.contains dues due ≡ has_deadline table due

pub dues_same : (dues : set.FinSet due_cmp) (old new : TicketTable) → DuesAgree dues old → ((q : ℕ) → deadline_of new q ≡ deadline_of old q) → DuesAgree dues new
dues_same dues old new agree same due = agree due ∙ ap (λ o. has o due.deadline) (sym (same due.ticket))

pub dues_with : (dues : set.FinSet due_cmp) (old new : TicketTable) (n : ℕ) (deadline : Option ℕ) → DuesAgree dues old → deadline_of old n ≡ None
    → ((q : ℕ) → deadline_of new q ≡ cond (q == n) deadline (deadline_of old q)) → DuesAgree (with_deadline dues n deadline) new
dues_with dues old new n None agree none differs due = dues_same dues old new agree (stays (deadline_of old) (deadline_of new) n None differs none) due
dues_with dues old new n (Some d) agree none differs due =
    let fresh : Due = record { deadline = d; ticket = n } in
    set.contains-insert due_total dues fresh due
    ∙ ap (λ b. b || set.contains dues due) (tied due fresh)
    ∙ ap (λ b. ((due.deadline == d) && (due.ticket == n)) || b) (agree due)
    ∙ has_with (deadline_of old) n d due.deadline due.ticket none ∙ ap (λ o. has o due.deadline) (sym (differs due.ticket))

pub dues_without : (dues : set.FinSet due_cmp) (old new : TicketTable) (n : ℕ) → DuesAgree dues old
    → ((q : ℕ) → deadline_of new q ≡ cond (q == n) None (deadline_of old q)) → DuesAgree (without_deadline dues n (deadline_of old n)) new
dues_without dues old new n agree differs =
    elim (deadline_of old n) as (λ o. deadline_of old n ≡ o → DuesAgree (without_deadline dues n o) new) [
      | None ↦ λ none. dues_same dues old new agree (stays (deadline_of old) (deadline_of new) n None differs none)
      | Some d ↦ λ some due. let left : Due = record { deadline = d; ticket = n } in
          set.contains-remove due_total dues left due
          ∙ ap (λ b. not b && set.contains dues due) (tied due left)
          ∙ ap (λ b. not ((due.deadline == d) && (due.ticket == n)) && b) (agree due)
          ∙ has_without (deadline_of old) n d due.deadline due.ticket some ∙ ap (λ o. has o due.deadline) (sym (differs due.ticket))
    ] refl

-- a deadline that was put in and taken out leaves the deadlines as they were
once_more : (b a : Bool) → (b ≡ true → a ≡ false) → (not b && (b || a)) ≡ a
once_more true a new = sym (new refl)
once_more false a new = refl

pub deadline_put_and_taken : (dues : set.FinSet due_cmp) (n : ℕ) (deadline : Option ℕ) (table : TicketTable) → DuesAgree dues table → deadline_of table n ≡ None
    → without_deadline (with_deadline dues n deadline) n deadline ≡ dues
deadline_put_and_taken dues n None table agree none = refl
deadline_put_and_taken dues n (Some d) table agree none =
    let due : Due = record { deadline = d; ticket = n } in
    let new : set.contains dues due ≡ false = agree due ∙ ap (λ o. has o d) none in
    set.same_set due_total due_exact _ _ (λ q.
    set.contains-remove due_total (set.insert dues due) due q
    ∙ ap (λ b. not (eq_by_cmp due_cmp q due) && b) (set.contains-insert due_total dues due q)
    ∙ once_more (eq_by_cmp due_cmp q due) (set.contains dues q) (λ here. ap (set.contains dues) (tells_apart due_exact q due here) ∙ new))
