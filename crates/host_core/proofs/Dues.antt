-- Serves clause none of `ticks_leave_none_due`: the key that is due first is there, so each removal
-- leaves one key less.
use Rattle.std.proofs.Common.{◌≡◌, ◌≤◌, ◌-◌, ◌||◌, ℕ, zero, suc, Bool, true, false, List, [], ◌∷◌, map, Option, Some, None, IsSome, is_some, if◌then◌else◌, nat_lt, nat_le, refl, sym, ap, ◌∙◌, arith}
use Rattle.std.specs.Cmp.Lexicographic.{slice_cmp, nat_list_cmp_total}
use Rattle.std.specs.FinMap as finite
use Rattle.std.specs.List.{cons_option, list_any}
use Rattle.std.specs.Option.{IfSome, option_map}
use Rattle.std.specs.Ordering.{eq_by_cmp, is_eq, nat_cmp}
use Rattle.std.proofs.lemmas.Bool.{false≢true}
use Rattle.std.proofs.lemmas.Cmp.{tied_itself}
use Rattle.core_types.specs.Keys.{Entry, Keys, Native, entry_at, key_count, without}
use Rattle.core_types.proofs.KeyLemmas.{key_count-without}
use Rattle.key_store.specs.NextDue.{Due, due_at, dues, next_due, sooner, soonest}
use Rattle.key_cmds.specs.Deadlines.{expired}
use Rattle.host_core.specs.Expiry.{after_one, expired_up_to}

-- one that is there, where there is one, has a key among those of these entries
abbrev Stands : List (List ℕ × Entry Native) → Option Due → Type 0
Stands entries first = IfSome first (λ due. list_any (eq_by_cmp (slice_cmp nat_cmp) due.key) (map (λ e. e.0) entries) ≡ true)

or_true : (a b : Bool) → b ≡ true → (a || b) ≡ true
or_true true b is = refl
or_true false b is = is

module _ (moment : ℕ) where
  first_stands : (entries : List (List ℕ × Entry Native)) → Stands entries (soonest (dues moment entries))
  first_stands [] = tt
  first_stands (e ∷ entries) = by e.1.deadline (first_stands entries)
    where
      later : (first : Option Due) → Stands entries first → Stands (e ∷ entries) first
      later None stands = tt
      later (Some due) stands = or_true _ _ stands

      itself : list_any (eq_by_cmp (slice_cmp nat_cmp) e.0) (map (λ x. x.0) (e ∷ entries)) ≡ true
      itself = ap (λ o. is_eq o || list_any (eq_by_cmp (slice_cmp nat_cmp) e.0) (map (λ x. x.0) entries)) (tied_itself nat_list_cmp_total e.0)

      here : (at : ℕ) (first : Option Due) → Stands entries first → Stands (e ∷ entries) (Some (sooner (record { key = e.0; moment = at }) first))
      here at None stands = itself
      here at (Some other) stands =
          elim (nat_lt other.moment at) as (λ b. Stands (e ∷ entries) (Some (if b then other else record { key = e.0; moment = at }))) [
            | true ↦ or_true _ _ stands
            | false ↦ itself
          ]

      by : (deadline : Option ℕ) → Stands entries (soonest (dues moment entries)) → Stands (e ∷ entries) (soonest (cons_option (due_at moment e.0 deadline) (dues moment entries)))
      by None stands = later (soonest (dues moment entries)) stands
      by (Some at) stands =
          elim (nat_le at moment) as (λ b. Stands (e ∷ entries) (soonest (cons_option (if b then Some (record { key = e.0; moment = at }) else None) (dues moment entries)))) [
            | true ↦ here at (soonest (dues moment entries)) stands
            | false ↦ later (soonest (dues moment entries)) stands
          ]

-- the key that is due first is there
pub next_there : (keys : Keys) (moment : ℕ) → IfSome (next_due keys moment) (λ key. IsSome (entry_at keys key))
next_there keys moment = by (soonest (dues moment (finite.entries keys))) (first_stands moment (finite.entries keys))
  where
    by : (first : Option Due) → Stands (finite.entries keys) first → IfSome (option_map (λ due. due.key) first) (λ key. IsSome (entry_at keys key))
    by None stands = tt
    by (Some due) stands = finite.contains_key-keys keys due.key ∙ stands

one_less : (keys : Keys) (key : List ℕ) (count : ℕ) → IsSome (entry_at keys key) → key_count keys ≤ suc count → key_count (without keys key) ≤ count
one_less keys key count there within =
    let left : key_count (without keys key) ≡ key_count keys - 1 = key_count-without keys key ∙ ap (λ b. if b then key_count keys - 1 else key_count keys) there in
    omega (arith, within, left)

none_of_none : (keys : Keys) (key : List ℕ) → key_count keys ≤ 0 → IsSome (entry_at keys key) → ⊥
none_of_none keys key none there =
    let empty : keys ≡ finite.empty = finite.empty_of_len keys (omega (arith, none)) in
    false≢true (sym (ap (λ k. is_some (finite.get k key)) empty ∙ ap is_some (finite.get-empty (slice_cmp nat_cmp) key)) ∙ there)

-- after as many removals as there are keys, or more, none is due
pub none_left : (count moment : ℕ) (keys : Keys) → key_count keys ≤ count → next_due (expired_up_to count moment keys).keys moment ≡ None
none_left zero moment keys within = by (next_due keys moment) refl (next_there keys moment)
  where
    by : (next : Option (List ℕ)) → next_due keys moment ≡ next → IfSome next (λ key. IsSome (entry_at keys key)) → next_due keys moment ≡ None
    by None is there = is
    by (Some key) is there = absurd (none_of_none keys key within there)
none_left (suc count) moment keys within = by (next_due keys moment) refl (next_there keys moment) (λ key there. none_left count moment (without keys key) (one_less keys key count there within))
  where
    by : (next : Option (List ℕ)) → next_due keys moment ≡ next → IfSome next (λ key. IsSome (entry_at keys key))
        → ((key : List ℕ) → IsSome (entry_at keys key) → next_due (expired_up_to count moment (without keys key)).keys moment ≡ None)
        → next_due (after_one keys (option_map (λ key. expired key keys) next) (expired_up_to count moment)).keys moment ≡ None
    by None is there more = is
    by (Some key) is there more = more key there
