-- The lines agree with the names of the clients after each step. It serves the invariant of `Roll`.
use Rattle.std.proofs.Common.{◌≡◌, ℕ, ◌==◌, Bool, true, false, cond, not, ◌||◌, ◌&&◌, List, [], ◌∷◌}
use Rattle.std.proofs.Common.{◌++◌, length, filter, Option, None, Some, unwrap_or, refl, sym, ap, subst, ◌∙◌}
use Rattle.std.proofs.Common.{eqb-true, suc, arith}
use Rattle.std.specs.Ordering.{nat_cmp}
use Rattle.std.specs.Cmp.{nat_cmp_total, eq_by_cmp_equiv, unsigned_tied}
use Rattle.std.specs.Cmp.Lexicographic.{slice_cmp, nat_list_cmp_total}
use Rattle.std.specs.List.{list_any}
use Rattle.std.specs.Option.{option_map_or}
use Rattle.std.specs.Str.{bytes_eq}
use Rattle.std.specs.FinMap as map
use Rattle.std.specs.FinSet as set
use Rattle.std.proofs.lemmas.Bool.{false≢true}
use Rattle.std.proofs.lemmas.Bool.Decides.{nat_tests}
use Rattle.std.proofs.lemmas.List.Folds.{list_any-append}
use Rattle.std.proofs.lemmas.Map.Views.{any-filter_same}
use Rattle.std.proofs.lemmas.Slice.Eq.{bytes_eq-Decides}
use Rattle.key_events.specs.Patterns.{matches}
use Rattle.key_events.specs.Rolls.{RollMap, NameList, has_name, names_at, with_names, with_new_name}
use Rattle.key_events.specs.Rolls.{without_name, without_client}
use Rattle.key_events.specs.inner.Lines.{LinesMap, holds, with_place, without_place}
use Rattle.key_events.specs.inner.Listing.{Agree, Leaves, Finds, FindsIn}
use Rattle.key_events.proofs.Places.{same, same_key, itself, held_with, held_without}
use Rattle.key_events.proofs.Standing.{tied}

-- ---- the names after a step

chosen : (b : Bool) (names : NameList) (o : Option NameList)
    → unwrap_or (cond b (Some names) o) [] ≡ cond b names (unwrap_or o [])
chosen true names o = refl
chosen false names o = refl

none_chosen : (b : Bool) (o : Option NameList)
    → unwrap_or (cond b None o) [] ≡ cond b [] (unwrap_or o [])
none_chosen true o = refl
none_chosen false o = refl

pub names_inserted : (roll : RollMap) (client : ℕ) (names : NameList) (c : ℕ)
    → names_at (map.insert roll client names) c ≡ cond (c == client) names (names_at roll c)
names_inserted roll client names c =
    ap (λ o. unwrap_or o []) (map.get-insert nat_cmp_total roll client names c
    ∙ ap (λ b. cond b (Some names) (map.get roll c)) (unsigned_tied c client))
    ∙ chosen (c == client) names (map.get roll c)

pub names_removed : (roll : RollMap) (client c : ℕ)
    → names_at (map.remove roll client) c ≡ cond (c == client) [] (names_at roll c)
names_removed roll client c =
    ap (λ o. unwrap_or o []) (map.get-remove nat_cmp_total roll client c
    ∙ ap (λ b. cond b None (map.get roll c)) (unsigned_tied c client))
    ∙ none_chosen (c == client) (map.get roll c)

pub names_with : (roll : RollMap) (client : ℕ) (names : NameList) (c : ℕ)
    → names_at (with_names roll client names) c ≡ cond (c == client) names (names_at roll c)
names_with roll client [] c = names_removed roll client c
names_with roll client (n ∷ ns) c =
    ap (λ b. names_at (cond b (map.remove roll client) (map.insert roll client (n ∷ ns))) c)
    (nonzero (length ns))
    ∙ names_inserted roll client (n ∷ ns) c
  where
    nonzero : (k : ℕ) → (suc k == 0) ≡ false
    nonzero k = grind (arith, nat_tests)

-- ---- the lines

pub agree_new : Agree map.empty map.empty
agree_new = λ n c. ap (λ o. option_map_or (λ s. set.contains s c) o false)
    (map.get-empty (slice_cmp nat_cmp) n)
    ∙ sym (ap (λ o. has_name n (unwrap_or o [])) (map.get-empty nat_cmp c))

pub agree_with : (roll : RollMap) (lines : LinesMap) (client : ℕ) (name : List ℕ) → Agree roll lines
    → Agree (with_new_name roll client name) (with_place lines name client)
agree_with roll lines client name agree = λ n c.
    held_with lines name client n c ∙ step n c (same n name) refl (c == client) refl
    ∙ sym (ap (has_name n) (names_inserted roll client (names_at roll client ++ name ∷ []) c))
  where
    added : (n : List ℕ) → has_name n (names_at roll client ++ name ∷ [])
        ≡ (has_name n (names_at roll client) || (same n name || false))
    added n = list_any-append (λ k. bytes_eq k n) (names_at roll client) (name ∷ [])
        ∙ ap (λ b. has_name n (names_at roll client) || (b || false)) (tied name n)

    last : (h : Bool) → true ≡ (h || (true || false))
    last true = refl
    last false = refl

    first : (h : Bool) → h ≡ (h || (false || false))
    first true = refl
    first false = refl

    step : (n : List ℕ) (c : ℕ) (b : Bool) → same n name ≡ b → (d : Bool) → (c == client) ≡ d
        → cond b (d || holds lines name c) (holds lines n c)
        ≡ has_name n (cond d (names_at roll client ++ name ∷ []) (names_at roll c))
    step n c true here true one = last (has_name n (names_at roll client))
        ∙ ap (λ b. has_name n (names_at roll client) || (b || false)) (sym here) ∙ sym (added n)
    step n c true here false other = agree name c
        ∙ ap (λ k. has_name k (names_at roll c)) (sym (same_key n name here))
    step n c false apart true one = agree n c
        ∙ ap (λ k. has_name n (names_at roll k)) (eqb-true c client one)
        ∙ first (has_name n (names_at roll client))
        ∙ ap (λ b. has_name n (names_at roll client) || (b || false)) (sym apart) ∙ sym (added n)
    step n c false apart false other = agree n c

-- a place that was given and taken back leaves all as it was
pub agree_back : (roll : RollMap) (lines : LinesMap) (client : ℕ) (name : List ℕ)
    → has_name name (names_at roll client) ≡ false → Agree roll lines
    → Agree roll (without_place (with_place lines name client) name client)
agree_back roll lines client name new agree = λ n c.
    held_without (with_place lines name client) name client n c
    ∙ ap (λ b. cond (same n name) (not (c == client) && b)
    (holds (with_place lines name client) n c))
    (held_with lines name client name c
    ∙ ap (λ b. cond b ((c == client) || holds lines name c) (holds lines name c)) (itself name))
    ∙ ap (λ b. cond (same n name) (not (c == client) && ((c == client) || holds lines name c)) b)
    (held_with lines name client n c)
    ∙ step n c (same n name) refl (c == client) refl
  where
    step : (n : List ℕ) (c : ℕ) (b : Bool) → same n name ≡ b → (d : Bool) → (c == client) ≡ d
        → cond b (not d && (d || holds lines name c))
        (cond b (d || holds lines name c) (holds lines n c)) ≡ has_name n (names_at roll c)
    step n c true here true one = sym (ap (λ k. has_name k (names_at roll c)) (same_key n name here)
        ∙ ap (λ k. has_name name (names_at roll k)) (eqb-true c client one) ∙ new)
    step n c true here false other = agree name c
        ∙ ap (λ k. has_name k (names_at roll c)) (sym (same_key n name here))
    step n c false apart d is = agree n c

pub agree_without : (roll : RollMap) (lines : LinesMap) (client : ℕ) (name : List ℕ)
    → Agree roll lines → Agree (without_name roll client name) (without_place lines name client)
agree_without roll lines client name agree = λ n c.
    held_without lines name client n c ∙ step n c (same n name) refl (c == client) refl
    ∙ sym (ap (has_name n) (names_with roll client (rest (names_at roll client)) c))
  where
    rest : NameList → NameList
    rest names = filter (λ k. not (bytes_eq k name)) names

    kept : (n : List ℕ) (b : Bool) → same n name ≡ b → (names : NameList)
        → has_name n (filter (λ k. not (bytes_eq k name)) names) ≡ (not b && has_name n names)
    kept n b is names = any-filter_same (λ k. bytes_eq k n) (λ k. not (bytes_eq k name)) (not b)
        (λ k here. ap (λ x. not (bytes_eq x name)) ((bytes_eq-Decides k n).0 here)
        ∙ ap not (tied n name ∙ symmetric name n ∙ is)) names
      where
        symmetric : (a e : List ℕ) → same a e ≡ same e a
        symmetric a e = (eq_by_cmp_equiv nat_list_cmp_total).symm a e

    step : (n : List ℕ) (c : ℕ) (b : Bool) → same n name ≡ b → (d : Bool) → (c == client) ≡ d
        → cond b (not d && holds lines name c) (holds lines n c)
        ≡ has_name n (cond d (filter (λ k. not (bytes_eq k name)) (names_at roll client))
        (names_at roll c))
    step n c true here true one = sym (kept n true here (names_at roll client))
    step n c true here false other = agree name c
        ∙ ap (λ k. has_name k (names_at roll c)) (sym (same_key n name here))
    step n c false apart true one = agree n c
        ∙ ap (λ k. has_name n (names_at roll k)) (eqb-true c client one)
        ∙ sym (kept n false apart (names_at roll client))
    step n c false apart false other = agree n c

pub agree_dropped : (roll : RollMap) (lines left : LinesMap) (client : ℕ) (names : NameList)
    → map.get roll client ≡ Some names → Leaves names client lines left → Agree roll lines
    → Agree (without_client roll client) left
agree_dropped roll lines left client names some leaves agree = λ n c.
    leaves n c ∙ ap (λ b. not ((c == client) && has_name n names) && b) (agree n c)
    ∙ step n c (c == client) refl ∙ sym (ap (has_name n) (names_removed roll client c))
  where
    never : (h : Bool) → (not h && h) ≡ false
    never true = refl
    never false = refl

    step : (n : List ℕ) (c : ℕ) (d : Bool) → (c == client) ≡ d
        → (not (d && has_name n names) && has_name n (names_at roll c))
        ≡ has_name n (cond d [] (names_at roll c))
    step n c true one = ap (λ k. not (has_name n names) && has_name n (names_at roll k))
        (eqb-true c client one)
        ∙ ap (λ o. not (has_name n names) && has_name n (unwrap_or o [])) some
        ∙ never (has_name n names)
    step n c false other = refl

-- who has a name that matches is found
pub finds_in : (roll : RollMap) (lines : LinesMap) (text clients : List ℕ) → Agree roll lines
    → Finds clients lines text → FindsIn clients roll text
finds_in roll lines text clients agree finds = record {
  rises = finds.rises;
  all = λ c some. let one = a_match (names_at roll c) some in
      finds.all one.0 c one.1 (agree one.0 c ∙ one.2);
}
  where
    a_match : (names : NameList) → list_any (λ n. matches n text) names ≡ true
        → (name : List ℕ) × (matches name text ≡ true) × (has_name name names ≡ true)
    a_match [] is = absurd (false≢true is)
    a_match (n ∷ ns) is =
        elim (matches n text) as (λ b. matches n text ≡ b
        → (b || list_any (λ k. matches k text) ns) ≡ true
        → (name : List ℕ) × (matches name text ≡ true) × (has_name name (n ∷ ns) ≡ true)) [
          | true ↦ λ here _. (
            n,
            here,
            ap (λ b. b || has_name n ns) ((bytes_eq-Decides n n).1 refl),
          )
          | false ↦ λ _ more. let found = a_match ns more in
              (found.0, found.1, later (bytes_eq n found.0) (has_name found.0 ns) found.2)
        ] refl is
      where
        later : (a b : Bool) → b ≡ true → (a || b) ≡ true
        later true b is = refl
        later false b is = is

-- what is the same agrees
pub moved : (roll roll' : RollMap) (lines lines' : LinesMap) → roll' ≡ roll → lines' ≡ lines
    → Agree roll lines → Agree roll' lines'
moved roll roll' lines lines' same_roll same_lines agree =
    subst (λ x. Agree x lines') (sym same_roll) (subst (Agree roll) (sym same_lines) agree)
