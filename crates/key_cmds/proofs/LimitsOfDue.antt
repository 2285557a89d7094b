-- The key that is due first is there, so its removal keeps the limits. Serves clause expiry of
-- limits_are_kept.
use Rattle.std.proofs.Common.{◌≡◌, ℕ, Bool, true, false, ◌||◌, List, [], ◌∷◌, map, Option, Some, None, is_some, if◌then◌else◌, nat_le, nat_lt, refl, sym, ap, ◌∙◌, true≢false}
use Rattle.std.specs.Cmp.Lexicographic.{slice_cmp, nat_list_cmp_total}
use Rattle.std.specs.FinMap as finite
use Rattle.std.specs.List.{AllByRecursion, cons_option, list_any}
use Rattle.std.specs.Option.{IfSome, option_map}
use Rattle.std.specs.Ordering.{eq_by_cmp, is_eq, nat_cmp}
use Rattle.std.proofs.lemmas.Cmp.{tied_itself}
use Rattle.core_types.specs.Keys.{Entry, KeysOf, entry_at}
use Rattle.core_types.specs.Keyspace.{IsKeyspace, IsString}
use Rattle.core_types.proofs.KeyLemmas.{removed_kept}
use Rattle.key_store.specs.NextDue.{Due, due_at, dues, next_due, sooner, soonest}
use Rattle.key_cmds.specs.Deadlines.{expired, first_expired}
use Rattle.key_cmds.specs.Laws.{ExpiryKeepsLimits}
use Rattle.key_cmds.proofs.LimitsOfKeys.{delete_small}

-- a key stands among these
abbrev stands_in : List (List ℕ) → List ℕ → Bool
stands_in names key = list_any (eq_by_cmp (slice_cmp nat_cmp) key) names

or_true : (a b : Bool) → b ≡ true → (a || b) ≡ true
or_true true b is = refl
or_true false b is = is

-- what holds of an entry's key holds of that of its due, and what holds of all of them holds of the
-- soonest
module _ (P : List ℕ → Type 0) where
  due_has : (now : ℕ) (key : List ℕ) (deadline : Option ℕ) → P key → IfSome (due_at now key deadline) (λ due. P due.key)
  due_has now key None h = tt
  due_has now key (Some moment) h = by (nat_le moment now)
    where
      by : (b : Bool) → IfSome {T = Due} (if b then Some (record { key = key; moment = moment }) else None) (λ due. P due.key)
      by true = h
      by false = tt

  soonest_has : (all : List Due) → AllByRecursion (λ due. P due.key) all → IfSome (soonest all) (λ due. P due.key)
  soonest_has [] h = tt
  soonest_has (due ∷ all) h = by (soonest all) (soonest_has all h.1)
    where
      by : (other : Option Due) → IfSome other (λ d. P d.key) → P (sooner due other).key
      by None rest = h.0
      by (Some other) rest = elim (nat_lt other.moment due.moment) as (λ b. P (if b then other else due).key) [ true ↦ rest | false ↦ h.0 ]

module _ {N : Type 0} where
  abbrev names_of : List (List ℕ × Entry N) → List (List ℕ)
  names_of entries = map (λ e. e.0) entries

  -- what stands in a list stands in a longer one
  stand_behind : (name : List ℕ) (names : List (List ℕ)) (entries : List (List ℕ × Entry N)) → AllByRecursion (λ e. stands_in names e.0 ≡ true) entries → AllByRecursion (λ e. stands_in (name ∷ names) e.0 ≡ true) entries
  stand_behind name names [] h = tt
  stand_behind name names (e ∷ entries) h = (or_true (eq_by_cmp (slice_cmp nat_cmp) e.0 name) (stands_in names e.0) h.0, stand_behind name names entries h.1)

  each_stands : (entries : List (List ℕ × Entry N)) → AllByRecursion (λ e. stands_in (names_of entries) e.0 ≡ true) entries
  each_stands [] = tt
  each_stands (e ∷ entries) = (
    ap (λ o. is_eq o || stands_in (names_of entries) e.0) (tied_itself nat_list_cmp_total e.0),
    stand_behind e.0 (names_of entries) entries (each_stands entries),
  )

  -- so what holds of the keys of all entries holds of the one that is due first
  module _ (now : ℕ) (P : List ℕ → Type 0) where
    dues_have : (entries : List (List ℕ × Entry N)) → AllByRecursion (λ e. P e.0) entries → AllByRecursion (λ due. P due.key) (dues now entries)
    dues_have [] h = tt
    dues_have (e ∷ entries) h = by (due_at now e.0 e.1.deadline) (due_has P now e.0 e.1.deadline h.0) (dues_have entries h.1)
      where
        by : (due : Option Due) → IfSome due (λ d. P d.key) → AllByRecursion (λ d. P d.key) (dues now entries) → AllByRecursion (λ d. P d.key) (cons_option due (dues now entries))
        by None first rest = rest
        by (Some due) first rest = (first, rest)

    next_has : (keys : KeysOf N) → AllByRecursion (λ e. P e.0) (finite.entries keys) → IfSome (next_due keys now) P
    next_has keys h = by (soonest (dues now (finite.entries keys))) (soonest_has P (dues now (finite.entries keys)) (dues_have (finite.entries keys) h))
      where
        by : (due : Option Due) → IfSome due (λ d. P d.key) → IfSome (option_map (λ d. d.key) due) P
        by None first = tt
        by (Some due) first = first

  module _ (allowed : N → Bool) where
    found_short : (keys : KeysOf N) → IsKeyspace allowed keys → (key : List ℕ) (found : Option (Entry N)) → entry_at keys key ≡ found → is_some found ≡ true → IsString key
    found_short keys is key None at there = absurd (true≢false (sym there))
    found_short keys is key (Some entry) at there = (is key entry at).0

    stands_short : (keys : KeysOf N) → IsKeyspace allowed keys → (key : List ℕ) → stands_in (finite.keys keys) key ≡ true → IsString key
    stands_short keys is key stands = found_short keys is key (entry_at keys key) refl (finite.contains_key-keys keys key ∙ stands)

    expired_kept : (keys : KeysOf N) → IsKeyspace allowed keys → (next : Option (List ℕ)) → IfSome next (λ key. stands_in (finite.keys keys) key ≡ true)
        → IfSome (option_map (λ key. expired key keys) next) (λ removal. ExpiryKeepsLimits allowed removal)
    expired_kept keys is None stands = tt
    expired_kept keys is (Some key) stands =
        record { keys = removed_kept allowed keys is key; effect = delete_small key (stands_short keys is key stands) }

    pub first_expired_kept : (moment : ℕ) (keys : KeysOf N) → IsKeyspace allowed keys → IfSome (first_expired keys moment) (λ removal. ExpiryKeepsLimits allowed removal)
    first_expired_kept moment keys is =
        expired_kept keys is (next_due keys moment) (next_has moment (λ key. stands_in (finite.keys keys) key ≡ true) keys (each_stands (finite.entries keys)))
