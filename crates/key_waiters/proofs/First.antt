-- What `first_at` finds, and that the lines find it too. It serves the clauses of `first`.
use Rattle.std.proofs.Common.{◌≡◌, ℕ, ◌<◌, ◌≤◌, Bool, true, false, cond, ◌&&◌, List, [], ◌∷◌}
use Rattle.std.proofs.Common.{Option, None, Some, nat_lt, refl, sym, ap, ◌∙◌, arith}
use Rattle.std.specs.Ordering.{nat_cmp, is_lt}
use Rattle.std.specs.Option.{MatchOption, option_map, option_map_or}
use Rattle.std.specs.List.{AllByRecursion, find}
use Rattle.std.specs.Str.{bytes_eq}
use Rattle.std.specs.FinMap as map
use Rattle.std.specs.FinMap.Entries as entries
use Rattle.std.specs.FinSet as set
use Rattle.std.proofs.lemmas.Bool.{true≢false, false≢true}
use Rattle.std.proofs.lemmas.Bool.Decides.{nat_tests}
use Rattle.std.proofs.lemmas.Slice.Eq.{bytes_eq-Decides}
use Rattle.key_waiters.specs.Waiting.{Waiting, first_at}
use Rattle.key_waiters.specs.inner.Lines.{LineSet, LinesMap, holds, Agree}
use Rattle.key_waiters.specs.inner.Places.{IsFirstOf}
use Rattle.key_waiters.proofs.Listed.{weaker, entries_found, found_entry}
use lib.Dec.{T}

abbrev has : ℕ → Option LineSet → Bool
has n o = option_map_or (λ s. set.contains s n) o false

-- the first of a key's line is the first of those that stand there
pub first_in : (lines : LinesMap) (key : List ℕ) (above : ℕ) (s : LineSet) (r : Option ℕ)
    → map.get lines key ≡ Some s → IsFirstOf (set.contains s) above r
    → IsFirstOf (holds lines key) above r
first_in lines key above s None at first = λ n is. first n (sym (ap (has n) at) ∙ is)
first_in lines key above s (Some m) at first =
    (ap (has m) at ∙ first.0, first.1, λ n is. first.2 n (sym (ap (has n) at) ∙ is))

pub first_of_none : (lines : LinesMap) (key : List ℕ) (above : ℕ) → map.get lines key ≡ None
    → IsFirstOf (holds lines key) above None
first_of_none lines key above none = λ n is. absurd (false≢true (sym (ap (has n) none) ∙ is))

-- ---- lists of entries in order

left : (a b : Bool) → T (a && b) → a ≡ true
left true b t = refl
left false b t = absurd t

right : (a b : Bool) → T (a && b) → T b
right true b t = t
right false b t = absurd t

whole : (a b : Bool) → T (a && b) → T a
whole true b t = tt
whole false b t = absurd t

below : (a b : ℕ) → is_lt (nat_cmp a b) ≡ true → a ≤ b
below a b is = grind (arith, nat_tests)

module _ {X : Type 0} where
  above_all : (e : ℕ × X) (es : List (ℕ × X)) → T (entries.below_all nat_cmp e.0 es)
      → AllByRecursion (λ x. e.0 ≤ x.0) es
  above_all e [] t = tt
  above_all e (y ∷ es) t = (
    below e.0 y.0 (left (is_lt (nat_cmp e.0 y.0)) (entries.below_all nat_cmp e.0 es) t),
    above_all e es (right (is_lt (nat_cmp e.0 y.0)) (entries.below_all nat_cmp e.0 es) t),
  )

  abbrev Leads : (ℕ × X → Type 0) → (ℕ × X → Bool) → List (ℕ × X) → ℕ × X → Type 0
  Leads P test es e = (test e ≡ true) × P e × AllByRecursion (λ x. test x ≡ true → e.0 ≤ x.0) es

  -- the first that passes has the least number of those that pass
  leads : (P : ℕ × X → Type 0) (test : ℕ × X → Bool) (es : List (ℕ × X))
      → T (entries.is_sorted nat_cmp es) → AllByRecursion P es
      → MatchOption (find test es) (AllByRecursion (λ e. test e ≡ false) es) (Leads P test es)
  leads P test [] rises all = tt
  leads P test (e ∷ es) rises all =
      elim (test e) as (λ b. test e ≡ b
      → MatchOption (cond b (Some e) (find test es))
      ((test e ≡ false) × AllByRecursion (λ x. test x ≡ false) es)
      (Leads P test (e ∷ es))) [
        | true ↦ λ passes. (
          passes,
          all.0,
          (
            (λ _. omega arith),
            weaker (λ x. e.0 ≤ x.0) (λ x. test x ≡ true → e.0 ≤ x.0) (λ x le _. le) es
                (above_all e es (whole (entries.below_all nat_cmp e.0 es)
                (entries.is_sorted nat_cmp es) rises)),
          ),
        )
        | false ↦ λ fails. elim (find test es) as (λ o. MatchOption o
            (AllByRecursion (λ x. test x ≡ false) es) (Leads P test es)
            → MatchOption o ((test e ≡ false) × AllByRecursion (λ x. test x ≡ false) es)
            (Leads P test (e ∷ es))) [
              | None ↦ λ rest. (fails, rest)
              | Some x ↦ λ rest. (
                rest.0,
                rest.1,
                ((λ passes. absurd (true≢false (sym passes ∙ fails))), rest.2),
              )
            ] (leads P test es (right (entries.below_all nat_cmp e.0 es)
            (entries.is_sorted nat_cmp es) rises) all.1)
      ] refl

-- ---- the first of a key

abbrev asked : ℕ → List ℕ → ℕ × List ℕ → Bool
asked above key e = nat_lt above e.0 && bytes_eq e.1 key

passes_is : (above : ℕ) (key : List ℕ) (e : ℕ × List ℕ) → asked above key e ≡ true
    → (above < e.0) × (e.1 ≡ key)
passes_is above key e is =
    elim (nat_lt above e.0) as (λ b. nat_lt above e.0 ≡ b → (b && bytes_eq e.1 key) ≡ true
    → (above < e.0) × (e.1 ≡ key)) [
      | true ↦ λ more same. (grind (arith, nat_tests), (bytes_eq-Decides e.1 key).0 same)
      | false ↦ λ _ no_more. absurd (false≢true no_more)
    ] refl is

is_passing : (above : ℕ) (key : List ℕ) (n : ℕ) → above < n → asked above key (n, key) ≡ true
is_passing above key n more =
    let first : nat_lt above n ≡ true = grind (arith, nat_tests) in
    ap (λ b. b && bytes_eq key key) first ∙ (bytes_eq-Decides key key).1 refl

pub index_of_first : (m : Waiting) (lines : LinesMap) (key : List ℕ) (above : ℕ) (r : Option ℕ)
    → Agree m lines → IsFirstOf (holds lines key) above r → r ≡ first_at m key above
index_of_first m lines key above r agree first =
    elim (find (asked above key) (map.entries m)) as (λ o. MatchOption o
    (AllByRecursion (λ e. asked above key e ≡ false) (map.entries m))
    (Leads (λ e. map.get m e.0 ≡ Some e.1) (asked above key) (map.entries m))
    → r ≡ option_map (λ e. e.0) o) [
      | None ↦ λ none. nobody r first none
      | Some e ↦ λ found. one r first e found
    ] (leads (λ e. map.get m e.0 ≡ Some e.1) (asked above key) (map.entries m)
    (map.entries_sorted m) (entries_found m))
  where
    nobody : (x : Option ℕ) → IsFirstOf (holds lines key) above x
        → AllByRecursion (λ e. asked above key e ≡ false) (map.entries m) → x ≡ None
    nobody None f none = refl
    nobody (Some n) f none =
        absurd (false≢true (sym
        (found_entry m (λ e. asked above key e ≡ false) n key none (agree.waits key n f.0))
        ∙ is_passing above key n f.1))

    by : (x : Option ℕ) → IsFirstOf (holds lines key) above x → (t : ℕ)
        → holds lines key t ≡ true → above < t
        → ((n : ℕ) → holds lines key n ≡ true → above < n → t ≤ n) → x ≡ Some t
    by None f t there more least = let no_more = f t there in absurd (omega arith)
    by (Some n) f t there more least = let down = f.2 t there more in let up =
        least n f.0 f.1 in ap Some (omega arith)

    one : (x : Option ℕ) → IsFirstOf (holds lines key) above x → (e : ℕ × List ℕ)
        → Leads (λ y. map.get m y.0 ≡ Some y.1) (asked above key) (map.entries m) e → x ≡ Some e.0
    one x f e found =
        let is = passes_is above key e found.0 in
        let there : holds lines key e.0 ≡ true = agree.listed key e.0 (found.1 ∙ ap Some is.1) in
        let more = is.0 in
        by x f e.0 there more
        (λ n waits higher. found_entry m
        (λ y. asked above key y ≡ true → e.0 ≤ y.0) n key found.2
        (agree.waits key n waits) (is_passing above key n higher))
