-- What the lines hold after each step. It serves the invariant of `Roll`.
use Rattle.std.proofs.Common.{◌≡◌, ℕ, ◌==◌, Bool, true, false, cond, not, ◌||◌, ◌&&◌, List, Option}
use Rattle.std.proofs.Common.{None, Some, unwrap_or, refl, sym, ap, ◌∙◌, eqb-true}
use Rattle.std.specs.Ordering.{nat_cmp, eq_by_cmp}
use Rattle.std.specs.Cmp.{eq_by_cmp_equiv}
use Rattle.std.specs.Cmp.Lexicographic.{slice_cmp, nat_list_cmp_total}
use Rattle.std.specs.Option.{option_map_or}
use Rattle.std.specs.FinMap as map
use Rattle.std.specs.FinSet as set
use Rattle.std.proofs.lemmas.Map.Lookups.{exact_bytes}
use Rattle.key_events.specs.inner.Lines.{LineSet, LinesMap, holds, with_place, without_place}
use Rattle.key_events.proofs.LineSet.{with_client, without_client}
use Rattle.key_events.proofs.Trees.{equal}

abbrev pub same : List ℕ → List ℕ → Bool
same k name = eq_by_cmp (slice_cmp nat_cmp) k name

pub same_key : (k name : List ℕ) → same k name ≡ true → k ≡ name
same_key k name is = exact_bytes k name (equal (slice_cmp nat_cmp k name) is)

pub itself : (k : List ℕ) → same k k ≡ true
itself k = (eq_by_cmp_equiv nat_list_cmp_total).refl k

abbrev has : ℕ → Option LineSet → Bool
has n o = option_map_or (λ s. set.contains s n) o false

at_cond : (n : ℕ) (b : Bool) (s : LineSet) (o : Option LineSet)
    → has n (cond b (Some s) o) ≡ cond b (set.contains s n) (has n o)
at_cond n true s o = refl
at_cond n false s o = refl

gone_cond : (n : ℕ) (b : Bool) (o : Option LineSet) → has n (cond b None o) ≡ cond b false (has n o)
gone_cond n true o = refl
gone_cond n false o = refl

of_default : (n : ℕ) (o : Option LineSet) → set.contains (unwrap_or o set.empty) n ≡ has n o
of_default n None = set.contains-empty nat_cmp n
of_default n (Some s) = refl

pub held_with : (lines : LinesMap) (name : List ℕ) (t : ℕ) (k : List ℕ) (n : ℕ)
    → holds (with_place lines name t) k n ≡ cond (same k name) ((n == t) || holds lines name n)
    (holds lines k n)
held_with lines name t k n =
    let s = set.insert (unwrap_or (map.get lines name) set.empty) t in
    ap (has n) (map.get-insert nat_list_cmp_total lines name s k)
    ∙ at_cond n (same k name) s (map.get lines k)
    ∙ ap (λ b. cond (same k name) b (holds lines k n))
    (with_client (unwrap_or (map.get lines name) set.empty) t n
    ∙ ap (λ b. (n == t) || b) (of_default n (map.get lines name)))

-- a set without a number holds none
none_in : (s : LineSet) (n : ℕ) → (set.len s == 0) ≡ true → set.contains s n ≡ false
none_in s n none = ap (λ x. set.contains x n) (set.empty_of_len s (eqb-true (set.len s) 0 none))
    ∙ set.contains-empty nat_cmp n

pub held_without : (lines : LinesMap) (name : List ℕ) (t : ℕ) (k : List ℕ) (n : ℕ)
    → holds (without_place lines name t) k n ≡ cond (same k name)
    (not (n == t) && holds lines name n) (holds lines k n)
held_without lines name t k n =
    elim (map.get lines name) as (λ o. map.get lines name ≡ o
    → holds (option_map_or
    (λ s. cond (set.len (set.remove s t) == 0) (map.remove lines name)
    (map.insert lines name (set.remove s t))) o lines) k n
    ≡ cond (same k name) (not (n == t) && has n o) (holds lines k n)) [
      | None ↦ λ none. nothing (same k name) refl none
      | Some s ↦ λ some. elim (set.len (set.remove s t) == 0) as (λ b.
          (set.len (set.remove s t) == 0) ≡ b
          → holds (cond b (map.remove lines name) (map.insert lines name (set.remove s t))) k
          n ≡ cond (same k name) (not (n == t) && set.contains s n) (holds lines k n)) [
            | true ↦ λ empty. ap (has n) (map.get-remove nat_list_cmp_total lines name k)
                ∙ gone_cond n (same k name) (map.get lines k)
                ∙ ap (λ b. cond (same k name) b (holds lines k n))
                (sym (none_in (set.remove s t) n empty) ∙ without_client s t n)
            | false ↦ λ _. ap (has n)
                (map.get-insert nat_list_cmp_total lines name (set.remove s t) k)
                ∙ at_cond n (same k name) (set.remove s t) (map.get lines k)
                ∙ ap (λ b. cond (same k name) b (holds lines k n)) (without_client s t n)
          ] refl
    ] refl
  where
    never : (a : Bool) → false ≡ (a && false)
    never true = refl
    never false = refl

    nothing : (b : Bool) → same k name ≡ b → map.get lines name ≡ None
        → holds lines k n ≡ cond b (not (n == t) && false) (holds lines k n)
    nothing true here none = ap (λ x. has n (map.get lines x)) (same_key k name here)
        ∙ ap (has n) none ∙ never (not (n == t))
    nothing false here none = refl
