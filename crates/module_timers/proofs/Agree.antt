-- The index agrees after each step where it did before. It serves the invariant of `Timers`.
use Rattle.std.proofs.Common.{◌≡◌, ℕ, ◌+◌, ◌<◌, ◌≤◌, ◌-◌, ◌==◌, Bool, true, false, cond, not, ◌||◌}
use Rattle.std.proofs.Common.{◌&&◌, is_some, IsSome, Option, None, Some, refl, sym, ap, subst, ◌∙◌}
use Rattle.std.proofs.Common.{arith, eqb-true}
use Rattle.std.specs.declared.cmp.Ordering.{Ordering}
use Rattle.std.specs.declared.cmp.Ordering.TheVariants.{Less, Equal, Greater}
use Rattle.std.specs.Ordering.{nat_cmp, is_eq, eq_by_cmp, ordering_then}
use Rattle.std.specs.Cmp.{nat_eq_equiv, unsigned_tied, nat_cmp_total}
use Rattle.std.specs.Option.{option_map, option_map_or}
use Rattle.std.specs.FinMap as finite
use Rattle.std.specs.FinSet as set
use Rattle.std.proofs.lemmas.Bool.{false≢true}
use Rattle.std.proofs.lemmas.Map.Views.{tells_apart}
use Rattle.module_timers.specs.declared.dues.Due.{Due}
use Rattle.module_timers.specs.declared.timer.Timer.{Timer}
use Rattle.module_timers.specs.Due.{due_cmp}
use Rattle.module_timers.specs.Laws.{deadline_of}
use Rattle.module_timers.specs.Outcomes.{CanStart}
use Rattle.module_timers.specs.TimerTable.{TimerMap, TimerTable, timer_at, no_timers, started}
use Rattle.module_timers.specs.TimerTable.{without}
use Rattle.module_timers.specs.inner.Indexed.{Indexed, table_of}
use Rattle.module_timers.proofs.DueSet.{due_total, due_exact}
use Rattle.module_timers.proofs.Found.{DuesAgree}

pub get-insert : {X : Type 0} (m : finite.FinMap nat_cmp X) (k : ℕ) (v : X) (q : ℕ)
    → finite.get (finite.insert m k v) q ≡ cond (q == k) (Some v) (finite.get m q)
get-insert m k v q = finite.get-insert nat_cmp_total m k v q
    ∙ ap (λ b. cond b (Some v) (finite.get m q)) (unsigned_tied q k)

pub get-remove : {X : Type 0} (m : finite.FinMap nat_cmp X) (k : ℕ) (q : ℕ)
    → finite.get (finite.remove m k) q ≡ cond (q == k) None (finite.get m q)
get-remove m k q = finite.get-remove nat_cmp_total m k q
    ∙ ap (λ b. cond b None (finite.get m q)) (unsigned_tied q k)

abbrev deadline : Timer → ℕ
deadline t = t.deadline

reads : (b : Bool) (x y : Option Timer)
    → option_map deadline (cond b x y) ≡ cond b (option_map deadline x) (option_map deadline y)
reads true x y = refl
reads false x y = refl

-- ---- the deadlines

abbrev has : Option ℕ → ℕ → Bool
has o x = option_map_or (λ d. d == x) o false

has_with : (g : ℕ → Option ℕ) (n d x q : ℕ) → g n ≡ None
    → (((x == d) && (q == n)) || has (g q) x) ≡ has (cond (q == n) (Some d) (g q)) x
has_with g n d x q none =
    elim (q == n) as (λ b. (q == n) ≡ b
    → (((x == d) && b) || has (g q) x) ≡ has (cond b (Some d) (g q)) x) [
      | true ↦ λ here. let none_here : g q ≡ None = ap g (eqb-true q n here) ∙ none in
          ap (λ o. ((x == d) && true) || has o x) none_here
          ∙ turned (x == d) (d == x) (nat_eq_equiv.symm x d)
      | false ↦ λ apart. ap (λ b. b || has (g q) x) (never (x == d))
    ] refl
  where
    turned : (a b : Bool) → a ≡ b → ((a && true) || false) ≡ b
    turned true b e = e
    turned false b e = e

    never : (a : Bool) → (a && false) ≡ false
    never true = refl
    never false = refl

has_without : (g : ℕ → Option ℕ) (n d x q : ℕ) → g n ≡ Some d
    → (not ((x == d) && (q == n)) && has (g q) x) ≡ has (cond (q == n) None (g q)) x
has_without g n d x q some =
    elim (q == n) as (λ b. (q == n) ≡ b
    → (not ((x == d) && b) && has (g q) x) ≡ has (cond b None (g q)) x) [
      | true ↦ λ here. let here_too : g q ≡ Some d = ap g (eqb-true q n here) ∙ some in
          ap (λ o. not ((x == d) && true) && has o x) here_too
          ∙ turned (x == d) (d == x) (nat_eq_equiv.symm x d)
      | false ↦ λ apart. ap (λ b. not b && has (g q) x) (never (x == d))
    ] refl
  where
    turned : (a b : Bool) → a ≡ b → (not (a && true) && b) ≡ false
    turned true b e = refl
    turned false b e = sym e

    never : (a : Bool) → (a && false) ≡ false
    never true = refl
    never false = refl

is_eq-then : (x y : Ordering) → is_eq (ordering_then x y) ≡ (is_eq x && is_eq y)
is_eq-then Less y = refl
is_eq-then Equal y = refl
is_eq-then Greater y = refl

-- two dues tie where their numbers are the same
tied : (a b : Due) → eq_by_cmp due_cmp a b ≡ ((a.deadline == b.deadline) && (a.timer == b.timer))
tied a b =
    is_eq-then (nat_cmp a.deadline b.deadline) (nat_cmp a.timer b.timer)
    ∙ ap (λ x. x && is_eq (nat_cmp a.timer b.timer)) (unsigned_tied a.deadline b.deadline)
    ∙ ap (λ x. (a.deadline == b.deadline) && x) (unsigned_tied a.timer b.timer)

abbrev due_of : ℕ → ℕ → Due
due_of deadline timer = record { deadline = deadline; timer = timer }

pub dues_with : (dues : set.FinSet due_cmp) (old new : TimerTable) (n d : ℕ)
    → DuesAgree dues old → deadline_of old n ≡ None
    → ((q : ℕ) → deadline_of new q ≡ cond (q == n) (Some d) (deadline_of old q))
    → DuesAgree (set.insert dues (due_of d n)) new
dues_with dues old new n d agree none differs due =
    let fresh : Due = due_of d n in
    set.contains-insert due_total dues fresh due
    ∙ ap (λ b. b || set.contains dues due) (tied due fresh)
    ∙ ap (λ b. ((due.deadline == d) && (due.timer == n)) || b) (agree due)
    ∙ has_with (deadline_of old) n d due.deadline due.timer none
    ∙ ap (λ o. has o due.deadline) (sym (differs due.timer))

pub dues_without : (dues : set.FinSet due_cmp) (old new : TimerTable) (n d : ℕ)
    → DuesAgree dues old → deadline_of old n ≡ Some d
    → ((q : ℕ) → deadline_of new q ≡ cond (q == n) None (deadline_of old q))
    → DuesAgree (set.remove dues (due_of d n)) new
dues_without dues old new n d agree some differs due =
    let left : Due = due_of d n in
    set.contains-remove due_total dues left due
    ∙ ap (λ b. not b && set.contains dues due) (tied due left)
    ∙ ap (λ b. not ((due.deadline == d) && (due.timer == n)) && b) (agree due)
    ∙ has_without (deadline_of old) n d due.deadline due.timer some
    ∙ ap (λ o. has o due.deadline) (sym (differs due.timer))

-- a deadline that was put in and taken out leaves the deadlines as they were
once_more : (b a : Bool) → (b ≡ true → a ≡ false) → (not b && (b || a)) ≡ a
once_more true a new = sym (new refl)
once_more false a new = refl

pub put_and_taken : (dues : set.FinSet due_cmp) (n d : ℕ) (table : TimerTable)
    → DuesAgree dues table → deadline_of table n ≡ None
    → set.remove (set.insert dues (due_of d n)) (due_of d n) ≡ dues
put_and_taken dues n d table agree none =
    let due : Due = due_of d n in
    let new : set.contains dues due ≡ false = agree due ∙ ap (λ o. has o d) none in
    set.same_set due_total due_exact _ _ (λ q.
    set.contains-remove due_total (set.insert dues due) due q
    ∙ ap (λ b. not (eq_by_cmp due_cmp q due) && b) (set.contains-insert due_total dues due q)
    ∙ once_more (eq_by_cmp due_cmp q due) (set.contains dues q)
    (λ here. ap (set.contains dues) (tells_apart due_exact q due here) ∙ new))

-- ---- the steps

pub indexed_new : Indexed set.empty no_timers
indexed_new = record {
  agree = λ due. set.contains-empty due_cmp due
      ∙ ap (λ o. has (option_map deadline o) due.deadline)
      (sym (finite.get-empty nat_cmp due.timer));
  given = λ n some. absurd (false≢true (sym (ap is_some (finite.get-empty nat_cmp n)) ∙ some));
  few = rw finite.len-empty (omega arith);
  next_fits = omega arith;
}

-- the next number is free
pub next_free : (dues : set.FinSet due_cmp) (table : TimerTable) → Indexed dues table
    → timer_at table table.next ≡ None
next_free dues table indexed =
    elim (timer_at table table.next) as (λ o. timer_at table table.next ≡ o → o ≡ None) [
      | None ↦ λ _. refl
      | Some t ↦ λ is. let given = indexed.given table.next (ap is_some is) in absurd (omega arith)
    ] refl

pub indexed_started : (dues : set.FinSet due_cmp) (table : TimerTable) (timer : Timer)
    → Indexed dues table → CanStart table
    → Indexed (set.insert dues (due_of timer.deadline table.next)) (started table timer)
indexed_started dues table timer indexed can =
    let n = table.next in
    let free = next_free dues table indexed in
    let at : (q : ℕ) → timer_at (started table timer) q ≡ cond (q == n) (Some timer)
    (timer_at table q) = λ q. get-insert table.timers n timer q in
    record {
      agree = dues_with dues table (started table timer) n timer.deadline indexed.agree
          (ap (option_map deadline) free)
          (λ q. ap (option_map deadline) (at q) ∙ reads (q == n) (Some timer) (timer_at table q));
      given = λ q some. below q (sym (at q)) some;
      few = let more = finite.len-insert nat_cmp_total table.timers n timer in let same =
          ap (λ o. cond (is_some o) (finite.len table.timers) (finite.len table.timers + 1))
          free in let room = can.0 in omega arith;
      next_fits = let fits = can.1 in omega arith;
    }
  where
    below : (q : ℕ) → cond (q == table.next) (Some timer) (timer_at table q) ≡ timer_at
        (started table timer) q → IsSome (timer_at (started table timer) q) → q < table.next + 1
    below q at some =
        elim (q == table.next) as (λ b. (q == table.next) ≡ b
        → IsSome (cond b (Some timer) (timer_at table q)) → q < table.next + 1) [
          | true ↦ λ here _. let same : q ≡ table.next = eqb-true q table.next here in omega arith
          | false ↦ λ _ is. let given = indexed.given q is in omega arith
        ] refl (subst IsSome (sym at) some)

pub indexed_without : (dues : set.FinSet due_cmp) (table : TimerTable) (n : ℕ) (timer : Timer)
    → Indexed dues table → timer_at table n ≡ Some timer
    → Indexed (set.remove dues (due_of timer.deadline n)) (without table n)
indexed_without dues table n timer indexed some =
    let at : (q : ℕ) → timer_at (without table n) q ≡ cond (q == n) None (timer_at table q) =
    λ q. get-remove table.timers n q in
    record {
      agree = dues_without dues table (without table n) n timer.deadline indexed.agree
          (ap (option_map deadline) some)
          (λ q. ap (option_map deadline) (at q) ∙ reads (q == n) None (timer_at table q));
      given = λ q is. left q (subst IsSome (at q) is);
      few = let fewer = finite.len-remove nat_cmp_total table.timers n in let few =
          indexed.few in let most =
          shrinks (finite.contains_key table.timers n) (finite.len table.timers) in omega arith;
      next_fits = indexed.next_fits;
    }
  where
    shrinks : (b : Bool) (k : ℕ) → cond b (k - 1) k ≤ k
    shrinks true k = omega arith
    shrinks false k = omega arith

    left : (q : ℕ) → IsSome (cond (q == n) None (timer_at table q)) → q < table.next
    left q is = elim (q == n) as (λ b. IsSome (cond b None (timer_at table q)) → q < table.next) [
      | true ↦ λ no. absurd (false≢true no)
      | false ↦ λ there. indexed.given q there
    ] is

-- nothing is taken out where no timer is set
pub unchanged : (table : TimerTable) (n : ℕ) → timer_at table n ≡ None → without table n ≡ table
unchanged table n none =
    ap (λ m. record table { timers = m })
    (finite.same_map nat_cmp_total finite.nat_cmp-IsAntisymmetric _ _
    (λ q. get-remove table.timers n q ∙ same q))
  where
    same : (q : ℕ) → cond (q == n) None (timer_at table q) ≡ timer_at table q
    same q = elim (q == n) as (λ b. (q == n) ≡ b
        → cond b None (timer_at table q) ≡ timer_at table q) [
          | true ↦ λ here. sym (ap (timer_at table) (eqb-true q n here) ∙ none)
          | false ↦ λ _. refl
        ] refl

-- the index agrees with parts that are the same
pub moved : (s s' : set.FinSet due_cmp) (m m' : TimerMap) (next : ℕ) → s' ≡ s → m' ≡ m
    → Indexed s (table_of m next) → Indexed s' (table_of m' next)
moved s s' m m' next same_s same_m indexed =
    subst (λ x. Indexed x (table_of m' next)) (sym same_s)
    (subst (λ x. Indexed s (table_of x next)) (sym same_m) indexed)
