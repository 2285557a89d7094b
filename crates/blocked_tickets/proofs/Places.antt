-- Each ready ticket has a place. It serves what `push` requires in `unblock`, and the room that
-- `admit` makes.
use Rattle.std.proofs.Common.{◌≡◌, ℕ, ◌<◌, ◌≤◌, ◌==◌, Bool, true, false, ◌||◌, is_some, List, [], ◌∷◌, length, Option, None, Some, IsSome, Result, Ok, Err, OnOk, slice_get, nat_eq, refl, sym, ap, ◌∙◌, arith, eqb-true}
use Rattle.std.specs.Ordering.{nat_cmp}
use Rattle.std.specs.Option.{option_and_then, IfSome}
use Rattle.std.specs.Result.{is_err}
use Rattle.std.specs.List.{AllByRecursion, IsDistinct, list_any}
use Rattle.std.specs.Cmp.{nat_eq_equiv, unsigned_tied}
use Rattle.std.specs.Set.{is_member}
use Rattle.std.specs.FinMap as maps
use Rattle.std.proofs.lemmas.Bool.{true≢false, false≢true, or_parts}
use Rattle.std.proofs.lemmas.Map.Entries.{length-keys_of}
use Rattle.std.proofs.lemmas.Map.Made.{length-le_from_is_member}
use Rattle.blocked_tickets.specs.declared.ticket.Ticket.{Ticket}
use Rattle.blocked_tickets.specs.Kept.{Kept}
use Rattle.blocked_tickets.specs.TicketTable.{TicketTable, ticket_at, payload_of}

-- a number that is held is among the keys
held_key : {X : Type 0} (m : maps.FinMap nat_cmp X) (q : ℕ) → is_some (maps.get m q) ≡ true → is_member nat_eq (maps.keys m) q ≡ true
held_key m q held = ap (λ (eq : ℕ → ℕ → Bool). list_any (eq q) (maps.keys m)) (λ i x y. sym (unsigned_tied x y) i) ∙ sym (maps.contains_key-keys m q) ∙ held

-- numbers that are held, each once, are no more than all that are held
few_held : {X : Type 0} (m : maps.FinMap nat_cmp X) (ns : List ℕ) → IsDistinct nat_eq ns → ((q : ℕ) → is_member nat_eq ns q ≡ true → is_some (maps.get m q) ≡ true) → length ns ≤ maps.len m
few_held m ns once held =
    let fewer = length-le_from_is_member nat_eq_equiv ns (maps.keys m) once (λ q among. held_key m q (held q among)) in
    rw (maps.len-entries m, ← length-keys_of (maps.entries m)) fewer

payload_held : (o : Option Ticket) → is_some (option_and_then (λ t. t.payload) o) ≡ true → is_some o ≡ true
payload_held None is = absurd (false≢true is)
payload_held (Some t) is = refl

ready_held : (table : TicketTable) → Kept table → (q : ℕ) → is_member nat_eq table.ready q ≡ true → is_some (ticket_at table q) ≡ true
ready_held table kept q among = payload_held (ticket_at table q) (sym (kept.ready_held q) ∙ among)

-- no more are ready than are held
pub ready_fits : (table : TicketTable) → Kept table → length table.ready ≤ maps.len table.held
ready_fits table kept = few_held table.held table.ready kept.ready_once (ready_held table kept)

none_among : (n : ℕ) (xs : List ℕ) → is_member nat_eq xs n ≡ false → AllByRecursion (λ y. nat_eq n y ≡ false) xs
none_among n [] new = tt
none_among n (x ∷ xs) new = let parts = or_parts (nat_eq n x) (is_member nat_eq xs n) new in (parts.0, none_among n xs parts.1)

-- and fewer, where one is held without a payload
pub ready_below : (table : TicketTable) (n : ℕ) (ticket : Ticket) → Kept table → ticket_at table n ≡ Some ticket → payload_of table n ≡ None → length table.ready < maps.len table.held
unfolding IsDistinct
ready_below table n ticket kept some none =
    let new : is_member nat_eq table.ready n ≡ false = kept.ready_held n ∙ ap is_some none in
    let more = few_held table.held (n ∷ table.ready) (none_among n table.ready new, kept.ready_once) (λ q among. by q (q == n) refl among) in
    omega arith
  where
    by : (q : ℕ) (b : Bool) → (q == n) ≡ b → (b || is_member nat_eq table.ready q) ≡ true → is_some (ticket_at table q) ≡ true
    by q true here among = ap (λ k. is_some (ticket_at table k)) (eqb-true q n here) ∙ ap is_some some
    by q false apart among = ready_held table kept q among

-- the first ready ticket is held, and has a payload
pub first_held : (table : TicketTable) → Kept table → IfSome (slice_get table.ready 0) (λ n. IsSome (payload_of table n))
first_held table kept =
    elim table.ready as (λ ns. ((q : ℕ) → is_member nat_eq ns q ≡ is_some (payload_of table q)) → IfSome (slice_get ns 0) (λ n. IsSome (payload_of table n))) [
      | [] ↦ λ _. tt
      | n ∷ ns ↦ λ held. sym (held n) ∙ ap (λ b. b || is_member nat_eq ns n) (nat_eq_equiv.refl n)
    ] kept.ready_held

-- there is nothing where a test for something fails
pub nothing : {A : Type 0} (o : Option A) → is_some o ≡ false → o ≡ None
nothing None is = refl
nothing (Some x) is = absurd (true≢false is)

-- what holds where a call did not fail
pub on_ok : {A E : Type 0} (result : Result A E) (P : Type 0) → is_err result ≡ false → OnOk result P → P
on_ok (Ok x) P is holds = holds
on_ok (Err e) P is holds = absurd (true≢false is)
