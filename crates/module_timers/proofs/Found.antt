-- What `due_at` finds, and that the index finds it too. It serves the clause of `due`, and the law
-- on it.
use Rattle.std.proofs.Common.{◌≡◌, ◌⊎◌, inl, inr, ⊎_elim, ℕ, ◌<◌, ◌≤◌, ◌==◌, ◌&&◌, Bool, true}
use Rattle.std.proofs.Common.{false, cond, List, [], ◌∷◌, filter, map, Option, None, Some, nat_le}
use Rattle.std.proofs.Common.{nat_lt, refl, sym, ap, subst, ◌∙◌, arith}
use Rattle.std.specs.declared.cmp.Ordering.{Ordering}
use Rattle.std.specs.declared.cmp.Ordering.TheVariants.{Less, Equal, Greater}
use Rattle.std.specs.Ordering.{nat_cmp, is_gt, ordering_then}
use Rattle.std.specs.Option.{MatchOption, option_map, option_map_or}
use Rattle.std.specs.List.{AllByRecursion}
use Rattle.std.specs.Cmp.{nat_eq_equiv}
use Rattle.std.specs.FinMap as finite
use Rattle.std.specs.FinSet as set
use Rattle.std.proofs.lemmas.Bool.{true≢false, false≢true}
use Rattle.std.proofs.lemmas.Bool.Decides.{nat_tests}
use Rattle.std.proofs.lemmas.Option.{none-some}
use Rattle.module_timers.specs.declared.dues.Due.{Due}
use Rattle.module_timers.specs.declared.timer.Timer.{Timer}
use Rattle.module_timers.specs.Due.{due_cmp, sooner, soonest}
use Rattle.module_timers.specs.Laws.{FirstIsDue, IsDue, NoLater, deadline_of}
use Rattle.module_timers.specs.TimerTable.{TimerTable, timer_at, deadlines, has_come, due_at}
use Rattle.module_timers.specs.inner.Earliest.{IsEarliest}
use Rattle.module_timers.specs.inner.Indexed.{has_deadline}
use Rattle.module_timers.proofs.Listed.{weaker, entries_found, found_entry, all_passing}
use Rattle.module_timers.proofs.Listed.{passing_all}

-- ---- lists

map_all : {X Y : Type 0} (P : Y → Type 0) (h : X → Y) (es : List X)
    → AllByRecursion (λ e. P (h e)) es → AllByRecursion P (map h es)
map_all P h [] all = tt
map_all P h (e ∷ es) all = (all.0, map_all P h es all.1)

all_map : {X Y : Type 0} (P : Y → Type 0) (h : X → Y) (es : List X)
    → AllByRecursion P (map h es) → AllByRecursion (λ e. P (h e)) es
all_map P h [] all = tt
all_map P h (e ∷ es) all = (all.0, all_map P h es all.1)

named : (o : Option ℕ) (c : ℕ) → option_map_or (λ d. d == c) o false ≡ true → o ≡ Some c
named None c passes = absurd (false≢true passes)
named (Some d) c passes = grind (arith, nat_tests)

-- what has come, in numbers
come_is : (now below : ℕ) (due : Due) → has_come now below due ≡ true
    → (due.deadline ≤ now) × (due.timer < below)
come_is now below due is =
    elim (nat_le due.deadline now) as (λ b. nat_le due.deadline now ≡ b
    → (b && nat_lt due.timer below) ≡ true → (due.deadline ≤ now) × (due.timer < below)) [
      | true ↦ λ le lt. (grind (arith, nat_tests), grind (arith, nat_tests))
      | false ↦ λ _ no. absurd (false≢true no)
    ] refl is

is_come : (now below : ℕ) (due : Due) → due.deadline ≤ now → due.timer < below
    → has_come now below due ≡ true
is_come now below due le lt =
    let first : nat_le due.deadline now ≡ true = grind (arith, nat_tests) in
    let second : nat_lt due.timer below ≡ true = grind (arith, nat_tests) in
    ap (λ b. b && nat_lt due.timer below) first ∙ second

-- ---- the order of the deadlines

-- none of the list comes before it
abbrev Leads : Due → List Due → Type 0
Leads due dues = AllByRecursion (λ d. NoLater due.deadline due.timer d.deadline d.timer) dues

order : (a b : Due)
    → (NoLater a.deadline a.timer b.deadline b.timer × (is_gt (due_cmp a b) ≡ false)) ⊎
    (NoLater b.deadline b.timer a.deadline a.timer × (is_gt (due_cmp a b) ≡ true))
order a b = by (nat_cmp a.deadline b.deadline) refl (nat_cmp a.timer b.timer) refl
  where
    less : (x y : ℕ) → nat_cmp x y ≡ Less → x < y
    less x y e = grind (arith, nat_tests)

    equal : (x y : ℕ) → nat_cmp x y ≡ Equal → x ≡ y
    equal x y e = grind (arith, nat_tests)

    greater : (x y : ℕ) → nat_cmp x y ≡ Greater → y < x
    greater x y e = grind (arith, nat_tests)

    by : (x : Ordering) → nat_cmp a.deadline b.deadline ≡ x → (y : Ordering)
        → nat_cmp a.timer b.timer ≡ y
        → (NoLater a.deadline a.timer b.deadline
        b.timer × (is_gt (ordering_then x y) ≡ false)) ⊎
        (NoLater b.deadline b.timer a.deadline a.timer × (is_gt (ordering_then x y) ≡ true))
    by Less e y f = inl (inl (less _ _ e), refl)
    by Greater e y f = inr (inl (greater _ _ e), refl)
    by Equal e Less f = inl (inr (equal _ _ e, let l = less a.timer b.timer f in omega arith), refl)
    by Equal e Equal f =
        inl (inr (equal _ _ e, let l = equal a.timer b.timer f in omega arith), refl)
    by Equal e Greater f =
        inr (inr (sym (equal _ _ e), let l = greater a.timer b.timer f in omega arith), refl)

through : (a b d : Due) → NoLater a.deadline a.timer b.deadline b.timer
    → NoLater b.deadline b.timer d.deadline d.timer → NoLater a.deadline a.timer d.deadline d.timer
through a b d (inl x) (inl y) = inl (omega arith)
through a b d (inl x) (inr y) = let same = y.0 in inl (omega arith)
through a b d (inr x) (inl y) = let same = x.0 in inl (omega arith)
through a b d (inr x) (inr y) = let first = x.1 in let second = y.1 in inr (x.0 ∙ y.0, omega arith)

leads_through : (a b : Due) (dues : List Due) → NoLater a.deadline a.timer b.deadline b.timer
    → Leads b dues → Leads a dues
leads_through a b dues before leads =
    weaker (λ d. NoLater b.deadline b.timer d.deadline d.timer)
    (λ d. NoLater a.deadline a.timer d.deadline d.timer)
    (λ d l. through a b d before l) dues leads

itself : (a : Due) → NoLater a.deadline a.timer a.deadline a.timer
itself a = inr (refl, omega arith)

-- the soonest has what all have, and comes first; where there is none the list is empty
soonest_leads : (P : Due → Type 0) (dues : List Due) → AllByRecursion P dues
    → MatchOption (soonest dues) (dues ≡ []) (λ d. P d × Leads d dues)
soonest_leads P [] all = refl
soonest_leads P (a ∷ dues) all =
    elim (soonest dues) as (λ o. MatchOption o (dues ≡ []) (λ d. P d × Leads d dues)
    → P (sooner a o) × Leads (sooner a o) (a ∷ dues)) [
      | None ↦ λ empty. (all.0, (itself a, subst (Leads a) (sym empty) tt))
      | Some b ↦ λ rest. ⊎_elim
          (λ first. let stays : a ≡ sooner a (Some b) = ap (λ t. cond t b a) (sym first.1) in
          subst (λ d. P d × Leads d (a ∷ dues)) stays
          (all.0, (itself a, leads_through a b dues first.0 rest.1)))
          (λ later. let goes : b ≡ sooner a (Some b) = ap (λ t. cond t b a) (sym later.1) in
          subst (λ d. P d × Leads d (a ∷ dues)) goes (rest.0, (later.0, rest.1)))
          (order a b)
    ] (soonest_leads P dues all.1)

abbrev due_of : ℕ → ℕ → Due
due_of deadline timer = record { deadline = deadline; timer = timer }

abbrev of_entry : ℕ × Timer → Due
of_entry e = due_of e.1.deadline e.0

-- each of the deadlines is that of its timer,
all_set : (table : TimerTable)
    → AllByRecursion (λ due. deadline_of table due.timer ≡ Some due.deadline) (deadlines table)
all_set table =
    map_all (λ due. deadline_of table due.timer ≡ Some due.deadline) of_entry
    (finite.entries table.timers)
    (weaker (λ e. finite.get table.timers e.0 ≡ Some e.1)
    (λ e. deadline_of table e.0 ≡ Some e.1.deadline)
    (λ e at. ap (option_map (λ (t : Timer). t.deadline)) at)
    (finite.entries table.timers) (entries_found table.timers))

-- and what holds of each of them holds of a timer's
set_all : (table : TimerTable) (P : Due → Type 0) → AllByRecursion P (deadlines table)
    → (n d : ℕ) → deadline_of table n ≡ Some d → P (due_of d n)
set_all table P all n d is =
    elim (timer_at table n) as (λ o. timer_at table n ≡ o
    → option_map (λ (t : Timer). t.deadline) o ≡ Some d → P (due_of d n)) [
      | None ↦ λ _ no. absurd (none-some d no)
      | Some t ↦ λ at same. let deadline : t.deadline ≡ d = cc in
          subst (λ x. P (due_of x n)) deadline
          (found_entry table.timers (λ e. P (of_entry e)) n t
          (all_map P of_entry (finite.entries table.timers) all) at)
    ] refl is

pub first_is_due : FirstIsDue
first_is_due table now below =
    let P : Due → Type 0 = λ due. deadline_of table due.timer ≡ Some due.deadline in
    let come : Due → Bool = has_come now below in
    let dues = filter come (deadlines table) in
    elim (soonest dues) as (λ o. MatchOption o (dues ≡ [])
    (λ d. (P d × (come d ≡ true)) × Leads d dues)
    → MatchOption (option_map (λ due. due.timer) o) ((n d : ℕ) → IsDue table now below n d → ⊥)
    (λ first. (deadline : ℕ) × IsDue table now below first deadline × ((n d : ℕ)
    → IsDue table now below n d → NoLater deadline first d n))) [
      | None ↦ λ empty n d due.
          set_all table (λ x. come x ≡ true → ⊥)
          (all_passing (λ _. ⊥) come (deadlines table)
          (subst (AllByRecursion (λ _. ⊥)) (sym empty) tt)) n d due.0
          (is_come now below (due_of d n) due.1 due.2)
      | Some f ↦ λ found. let is = come_is now below f found.0.1 in (
        f.deadline,
        (found.0.0, is.0, is.1),
        λ n d due.
            set_all table (λ x. come x ≡ true → NoLater f.deadline f.timer x.deadline x.timer)
            (all_passing (λ x. NoLater f.deadline f.timer x.deadline x.timer) come
            (deadlines table) found.1) n d due.0 (is_come now below (due_of d n) due.1 due.2),
      )
    ] (soonest_leads (λ d. P d × (come d ≡ true)) dues
    (passing_all P come (deadlines table) (all_set table)))

-- one that is not after another comes no later
no_later : (a b : Due) → is_gt (due_cmp a b) ≡ false → NoLater a.deadline a.timer b.deadline b.timer
no_later a b e = ⊎_elim (λ first. first.0) (λ later. absurd (true≢false (sym later.1 ∙ e)))
    (order a b)

-- two that come no later than each other are of one timer
same_timer : (d n e m : ℕ) → NoLater d n e m → NoLater e m d n → n ≡ m
same_timer d n e m (inl x) (inl y) = absurd (omega arith)
same_timer d n e m (inl x) (inr y) = let same = y.0 in absurd (omega arith)
same_timer d n e m (inr x) (inl y) = let same = x.0 in absurd (omega arith)
same_timer d n e m (inr x) (inr y) = let first = x.1 in let second = y.1 in omega arith

abbrev pub DuesAgree : set.FinSet due_cmp → TimerTable → Type 0
DuesAgree dues table = (due : Due) → set.contains dues due ≡ has_deadline table due

-- the index finds it
pub index_of_due : (dues : set.FinSet due_cmp) (table : TimerTable) (now below : ℕ)
    (first : Option ℕ) → DuesAgree dues table → IsEarliest dues now below first
    → first ≡ due_at table now below
index_of_due dues table now below first agree earliest =
    elim (due_at table now below) as (λ o. MatchOption o
    ((n d : ℕ) → IsDue table now below n d → ⊥)
    (λ n. (d : ℕ) × IsDue table now below n d × ((m e : ℕ) → IsDue table now below m e
    → NoLater d n e m)) → first ≡ o) [
      | None ↦ λ none. no_due first earliest none
      | Some n ↦ λ found. some_due first earliest n found.0 found.1 found.2
    ] (first_is_due table now below)
  where
    held : (due : Due) → set.contains dues due ≡ true → has_come now below due ≡ true
        → IsDue table now below due.timer due.deadline
    held due there come = let is = come_is now below due come in
        (named (deadline_of table due.timer) due.deadline (sym (agree due) ∙ there), is.0, is.1)

    there : (n d : ℕ) → deadline_of table n ≡ Some d → set.contains dues (due_of d n) ≡ true
    there n d is = agree (due_of d n) ∙ ap (λ o. option_map_or (λ x. x == d) o false) is
        ∙ nat_eq_equiv.refl d

    no_due : (r : Option ℕ) → IsEarliest dues now below r
        → ((n d : ℕ) → IsDue table now below n d → ⊥) → r ≡ None
    no_due None e none = refl
    no_due (Some t) e none = absurd (none e.0.timer e.0.deadline (held e.0 e.2 e.3))

    some_due : (r : Option ℕ) → IsEarliest dues now below r → (n d : ℕ)
        → IsDue table now below n d → ((m e : ℕ) → IsDue table now below m e → NoLater d n e m)
        → r ≡ Some n
    some_due None e n d due leads =
        absurd (false≢true (sym (e (due_of d n) (there n d due.0))
        ∙ is_come now below (due_of d n) due.1 due.2))
    some_due (Some t) e n d due leads =
        let before : NoLater e.0.deadline e.0.timer d n =
        no_later e.0 (due_of d n)
        (e.4 (due_of d n) (there n d due.0) (is_come now below (due_of d n) due.1 due.2)) in
        ap Some (sym e.1 ∙ same_timer e.0.deadline e.0.timer d n before
        (leads e.0.timer e.0.deadline (held e.0 e.2 e.3)))
