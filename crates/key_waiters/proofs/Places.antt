-- What the lines hold after each step, and that they agree with the tickets that wait. It serves
-- the invariant of `Waiters`.
use Rattle.std.proofs.Common.{◌≡◌, ℕ, ◌==◌, Bool, true, false, cond, not, ◌||◌, ◌&&◌, List, Option}
use Rattle.std.proofs.Common.{None, Some, unwrap_or, refl, sym, ap, subst, ◌∙◌, eqb-true}
use Rattle.std.specs.Ordering.{nat_cmp, eq_by_cmp}
use Rattle.std.specs.Cmp.{nat_cmp_total, nat_eq_equiv, unsigned_tied, eq_by_cmp_equiv}
use Rattle.std.specs.Cmp.Lexicographic.{slice_cmp, nat_list_cmp_total}
use Rattle.std.specs.Option.{option_map_or}
use Rattle.std.specs.FinMap as map
use Rattle.std.specs.FinSet as set
use Rattle.std.proofs.lemmas.Bool.{false≢true}
use Rattle.std.proofs.lemmas.Option.{none-some, same_Some}
use Rattle.std.proofs.lemmas.Map.Lookups.{exact_bytes}
use Rattle.key_waiters.specs.Waiting.{Waiting, key_at, nobody_waits, with_waiter, without}
use Rattle.key_waiters.specs.inner.Lines.{LineSet, LinesMap, holds, with_place, without_place}
use Rattle.key_waiters.specs.inner.Lines.{Agree}
use Rattle.key_waiters.proofs.LineSet.{with_ticket, without_ticket}
use Rattle.key_waiters.proofs.Trees.{equal}

abbrev same : List ℕ → List ℕ → Bool
same k key = eq_by_cmp (slice_cmp nat_cmp) k key

same_key : (k key : List ℕ) → same k key ≡ true → k ≡ key
same_key k key is = exact_bytes k key (equal (slice_cmp nat_cmp k key) is)

itself : (k : List ℕ) → same k k ≡ true
itself k = (eq_by_cmp_equiv nat_list_cmp_total).refl k

abbrev has : ℕ → Option LineSet → Bool
has n o = option_map_or (λ s. set.contains s n) o false

at_cond : (n : ℕ) (b : Bool) (s : LineSet) (o : Option LineSet)
    → has n (cond b (Some s) o) ≡ cond b (set.contains s n) (has n o)
at_cond n true s o = refl
at_cond n false s o = refl

gone_cond : (n : ℕ) (b : Bool) (o : Option LineSet) → has n (cond b None o) ≡ cond b false (has n o)
gone_cond n true o = refl
gone_cond n false o = refl

of_default : (n : ℕ) (o : Option LineSet) → set.contains (unwrap_or o set.empty) n ≡ has n o
of_default n None = set.contains-empty nat_cmp n
of_default n (Some s) = refl

pub held_with : (lines : LinesMap) (key : List ℕ) (t : ℕ) (k : List ℕ) (n : ℕ)
    → holds (with_place lines key t) k n ≡ cond (same k key) ((n == t) || holds lines key n)
    (holds lines k n)
held_with lines key t k n =
    let s = set.insert (unwrap_or (map.get lines key) set.empty) t in
    ap (has n) (map.get-insert nat_list_cmp_total lines key s k)
    ∙ at_cond n (same k key) s (map.get lines k)
    ∙ ap (λ b. cond (same k key) b (holds lines k n))
    (with_ticket (unwrap_or (map.get lines key) set.empty) t n
    ∙ ap (λ b. (n == t) || b) (of_default n (map.get lines key)))

-- a set without a number holds none
none_in : (s : LineSet) (n : ℕ) → (set.len s == 0) ≡ true → set.contains s n ≡ false
none_in s n none = ap (λ x. set.contains x n) (set.empty_of_len s (eqb-true (set.len s) 0 none))
    ∙ set.contains-empty nat_cmp n

pub held_without : (lines : LinesMap) (key : List ℕ) (t : ℕ) (k : List ℕ) (n : ℕ)
    → holds (without_place lines key t) k n ≡ cond (same k key)
    (not (n == t) && holds lines key n) (holds lines k n)
held_without lines key t k n =
    elim (map.get lines key) as (λ o. map.get lines key ≡ o
    → holds (option_map_or
    (λ s. cond (set.len (set.remove s t) == 0) (map.remove lines key)
    (map.insert lines key (set.remove s t))) o lines) k n
    ≡ cond (same k key) (not (n == t) && has n o) (holds lines k n)) [
      | None ↦ λ none. nothing (same k key) refl none
      | Some s ↦ λ some. elim (set.len (set.remove s t) == 0) as (λ b.
          (set.len (set.remove s t) == 0) ≡ b
          → holds (cond b (map.remove lines key) (map.insert lines key (set.remove s t))) k
          n ≡ cond (same k key) (not (n == t) && set.contains s n) (holds lines k n)) [
            | true ↦ λ empty. ap (has n) (map.get-remove nat_list_cmp_total lines key k)
                ∙ gone_cond n (same k key) (map.get lines k)
                ∙ ap (λ b. cond (same k key) b (holds lines k n))
                (sym (none_in (set.remove s t) n empty) ∙ without_ticket s t n)
            | false ↦ λ _. ap (has n)
                (map.get-insert nat_list_cmp_total lines key (set.remove s t) k)
                ∙ at_cond n (same k key) (set.remove s t) (map.get lines k)
                ∙ ap (λ b. cond (same k key) b (holds lines k n)) (without_ticket s t n)
          ] refl
    ] refl
  where
    never : (a : Bool) → false ≡ (a && false)
    never true = refl
    never false = refl

    nothing : (b : Bool) → same k key ≡ b → map.get lines key ≡ None
        → holds lines k n ≡ cond b (not (n == t) && false) (holds lines k n)
    nothing true here none = ap (λ x. has n (map.get lines x)) (same_key k key here)
        ∙ ap (has n) none ∙ never (not (n == t))
    nothing false here none = refl

-- ---- the steps

get-insert : (m : Waiting) (t : ℕ) (key : List ℕ) (q : ℕ)
    → key_at (with_waiter m t key) q ≡ cond (q == t) (Some key) (key_at m q)
get-insert m t key q = map.get-insert nat_cmp_total m t key q
    ∙ ap (λ b. cond b (Some key) (map.get m q)) (unsigned_tied q t)

get-remove : (m : Waiting) (t q : ℕ) → key_at (without m t) q ≡ cond (q == t) None (key_at m q)
get-remove m t q = map.get-remove nat_cmp_total m t q
    ∙ ap (λ b. cond b None (map.get m q)) (unsigned_tied q t)

pub agree_new : Agree nobody_waits map.empty
agree_new = record {
  listed = λ key n is. absurd (none-some key (sym (map.get-empty nat_cmp n) ∙ is));
  waits = λ key n is. absurd
      (false≢true (sym (ap (has n) (map.get-empty (slice_cmp nat_cmp) key)) ∙ is));
}

pub agree_with : (m : Waiting) (lines : LinesMap) (t : ℕ) (key : List ℕ) → key_at m t ≡ None
    → Agree m lines → Agree (with_waiter m t key) (with_place lines key t)
agree_with m lines t key free agree = record {
  listed = λ k n is. held_with lines key t k n
      ∙ listed k n (n == t) refl (sym (get-insert m t key n) ∙ is);
  waits = λ k n is. get-insert m t key n
      ∙ waits k n (same k key) refl (n == t) refl (sym (held_with lines key t k n) ∙ is);
}
  where
    listed : (k : List ℕ) (n : ℕ) (b : Bool) → (n == t) ≡ b
        → cond b (Some key) (key_at m n) ≡ Some k
        → cond (same k key) (b || holds lines key n) (holds lines k n) ≡ true
    listed k n true here is =
        ap (λ c. cond c true (holds lines k n))
        (ap (λ x. same x key) (sym (same_Some key k is)) ∙ itself key)
    listed k n false here is =
        let there = agree.listed k n is in
        elim (same k key) as (λ c. same k key ≡ c
        → cond c (holds lines key n) (holds lines k n) ≡ true) [
          | true ↦ λ e. ap (λ x. holds lines x n) (sym (same_key k key e)) ∙ there
          | false ↦ λ _. there
        ] refl

    waits : (k : List ℕ) (n : ℕ) (c : Bool) → same k key ≡ c → (b : Bool) → (n == t) ≡ b
        → cond c (b || holds lines key n) (holds lines k n) ≡ true
        → cond b (Some key) (key_at m n) ≡ Some k
    waits k n true e true here is = ap Some (sym (same_key k key e))
    waits k n true e false here is =
        agree.waits k n (ap (λ x. holds lines x n) (same_key k key e) ∙ is)
    waits k n false e true here is =
        absurd (none-some k
        (sym free ∙ ap (key_at m) (sym (eqb-true n t here)) ∙ agree.waits k n is))
    waits k n false e false here is = agree.waits k n is

pub agree_without : (m : Waiting) (lines : LinesMap) (t : ℕ) (key : List ℕ)
    → key_at m t ≡ Some key → Agree m lines → Agree (without m t) (without_place lines key t)
agree_without m lines t key some agree = record {
  listed = λ k n is. held_without lines key t k n
      ∙ listed k n (n == t) refl (sym (get-remove m t n) ∙ is);
  waits = λ k n is. get-remove m t n
      ∙ waits k n (same k key) refl (n == t) refl (sym (held_without lines key t k n) ∙ is);
}
  where
    listed : (k : List ℕ) (n : ℕ) (b : Bool) → (n == t) ≡ b → cond b None (key_at m n) ≡ Some k
        → cond (same k key) (not b && holds lines key n) (holds lines k n) ≡ true
    listed k n true here is = absurd (none-some k is)
    listed k n false here is =
        let there = agree.listed k n is in
        elim (same k key) as (λ c. same k key ≡ c
        → cond c (holds lines key n) (holds lines k n) ≡ true) [
          | true ↦ λ e. ap (λ x. holds lines x n) (sym (same_key k key e)) ∙ there
          | false ↦ λ _. there
        ] refl

    waits : (k : List ℕ) (n : ℕ) (c : Bool) → same k key ≡ c → (b : Bool) → (n == t) ≡ b
        → cond c (not b && holds lines key n) (holds lines k n) ≡ true
        → cond b None (key_at m n) ≡ Some k
    waits k n true e true here is = absurd (false≢true is)
    waits k n true e false here is =
        agree.waits k n (ap (λ x. holds lines x n) (same_key k key e) ∙ is)
    waits k n false e true here is =
        let one : key ≡ k =
        same_Some key k (sym some ∙ ap (key_at m) (sym (eqb-true n t here))
        ∙ agree.waits k n is) in
        absurd (false≢true (sym e ∙ ap (λ x. same x key) (sym one) ∙ itself key))
    waits k n false e false here is = agree.waits k n is

-- nothing is taken out where the ticket does not wait
pub unchanged : (m : Waiting) (t : ℕ) → key_at m t ≡ None → without m t ≡ m
unchanged m t none =
    map.same_map nat_cmp_total map.nat_cmp-IsAntisymmetric _ _ (λ q. get-remove m t q ∙ stays q)
  where
    stays : (q : ℕ) → cond (q == t) None (key_at m q) ≡ key_at m q
    stays q = elim (q == t) as (λ b. (q == t) ≡ b → cond b None (key_at m q) ≡ key_at m q) [
      | true ↦ λ here. sym (ap (key_at m) (eqb-true q t here) ∙ none)
      | false ↦ λ _. refl
    ] refl

-- a place that was given and taken back leaves all as it was
pub agree_back : (m : Waiting) (lines : LinesMap) (t : ℕ) (key : List ℕ) → key_at m t ≡ None
    → Agree m lines → Agree m (without_place (with_place lines key t) key t)
agree_back m lines t key free agree =
    subst (λ x. Agree x (without_place (with_place lines key t) key t)) (put_and_taken)
    (agree_without (with_waiter m t key) (with_place lines key t) t key
    (get-insert m t key t ∙ ap (λ b. cond b (Some key) (key_at m t)) (nat_eq_equiv.refl t))
    (agree_with m lines t key free agree))
  where
    twice : (b : Bool) (o : Option (List ℕ)) → (b ≡ true → o ≡ None)
        → cond b None (cond b (Some key) o) ≡ o
    twice true o none = sym (none refl)
    twice false o none = refl

    put_and_taken : without (with_waiter m t key) t ≡ m
    put_and_taken = map.same_map nat_cmp_total map.nat_cmp-IsAntisymmetric _ _ (λ q.
        get-remove (with_waiter m t key) t q ∙ ap (cond (q == t) None) (get-insert m t key q)
        ∙ twice (q == t) (key_at m q) (λ here. ap (key_at m) (eqb-true q t here) ∙ free))

-- what is the same agrees
pub moved : (m m' : Waiting) (lines lines' : LinesMap) → m' ≡ m → lines' ≡ lines → Agree m lines
    → Agree m' lines'
moved m m' lines lines' same_m same_lines agree =
    subst (λ x. Agree x lines') (sym same_m) (subst (Agree m) (sym same_lines) agree)
