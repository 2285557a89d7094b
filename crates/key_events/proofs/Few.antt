-- How many names clients have after each step. It serves the invariant of `Channels`.
use Rattle.std.proofs.Common.{◌≡◌, ℕ, ◌+◌, ◌==◌, ◌<◌, ◌≤◌, Bool, true, false, cond, not, List, [], ◌∷◌, ◌++◌}
use Rattle.std.proofs.Common.{length, filter, unwrap_or, refl, sym, ap, subst, ◌∙◌, eqb-true, length-append, arith}
use Rattle.std.specs.Ordering.{nat_cmp}
use Rattle.std.specs.Cmp.{nat_eq_equiv}
use Rattle.std.specs.Str.{bytes_eq}
use Rattle.std.specs.FinMap as map
use Rattle.key_events.specs.Rolls.{RollMap, NameList, names_at, with_new_name, without_name}
use Rattle.key_events.specs.Rolls.{without_client}
use Rattle.key_events.specs.Subscribers.{Subscribers, nobody, roll_of, with_roll, count_of, most_names}
use Rattle.key_events.specs.Subscribers.{unsubscribed, dropped}
use Rattle.key_events.specs.inner.Bounds.{AreFew}
use Rattle.key_events.proofs.Agreeing.{names_inserted, names_removed, names_with}

-- how many names a client has in a roll
abbrev size : RollMap → ℕ → ℕ
size roll c = length (names_at roll c)

size_empty : (c : ℕ) → size map.empty c ≡ 0
size_empty c = ap (λ o. length (unwrap_or {T = NameList} o [])) (map.get-empty nat_cmp c)

size_new : (roll : RollMap) (client : ℕ) (name : List ℕ) (c : ℕ)
    → size (with_new_name roll client name) c
    ≡ cond (c == client) (size roll client + 1) (size roll c)
size_new roll client name c =
    ap length (names_inserted roll client (names_at roll client ++ name ∷ []) c)
    ∙ chosen (c == client)
  where
    chosen : (b : Bool) → length (cond b (names_at roll client ++ name ∷ []) (names_at roll c))
        ≡ cond b (size roll client + 1) (size roll c)
    chosen true = length-append (names_at roll client) (name ∷ [])
    chosen false = refl

-- a choice of lists is no longer than the second, where the first is not
no_longer : (roll : RollMap) (client : ℕ) (names : NameList) (c : ℕ)
    → length names ≤ size roll client
    → length (cond (c == client) names (names_at roll c)) ≤ size roll c
no_longer roll client names c short = elim (c == client) as (λ b. (c == client) ≡ b
    → length (cond b names (names_at roll c)) ≤ size roll c) [
      | true ↦ λ one. subst (λ k. length names ≤ size roll k) (sym (eqb-true c client one)) short
      | false ↦ λ _. omega arith
    ] refl

pub fewer_without : (roll : RollMap) (client : ℕ) (name : List ℕ) (c : ℕ)
    → size (without_name roll client name) c ≤ size roll c
fewer_without roll client name c =
    let rest = filter (λ n. not (bytes_eq n name)) (names_at roll client) in
    subst (λ ns. length ns ≤ size roll c) (sym (names_with roll client rest c))
    (no_longer roll client rest c (shorter (names_at roll client)))
  where
    shorter : (names : NameList) → length (filter (λ n. not (bytes_eq n name)) names) ≤ length names
    shorter [] = omega arith
    shorter (n ∷ ns) = let rest = shorter ns in elim (not (bytes_eq n name)) as (λ b.
        length (cond b (n ∷ filter (λ k. not (bytes_eq k name)) ns)
        (filter (λ k. not (bytes_eq k name)) ns)) ≤ length (n ∷ ns)) [
          | true ↦ omega arith
          | false ↦ omega arith
        ]

pub fewer_dropped : (roll : RollMap) (client c : ℕ) → size (without_client roll client) c ≤ size roll c
fewer_dropped roll client c =
    subst (λ ns. length ns ≤ size roll c) (sym (names_removed roll client c))
    (no_longer roll client [] c (omega arith))

-- ---- the counts

pub few_new : AreFew nobody
few_new = λ c. let none = size_empty c in omega arith

pub few_dropped : (s : Subscribers) (client : ℕ) → AreFew s → AreFew (dropped s client)
few_dropped s client few = λ c.
    let before = few c in
    let channels = fewer_dropped s.channels client c in
    let patterns = fewer_dropped s.patterns client c in
    omega arith

pub few_without : (s : Subscribers) (client : ℕ) (name : List ℕ) (pattern : Bool) → AreFew s
    → AreFew (unsubscribed s client name pattern)
few_without s client name true few = λ c.
    let before = few c in let less = fewer_without s.patterns client name c in omega arith
few_without s client name false few = λ c.
    let before = few c in let less = fewer_without s.channels client name c in omega arith

-- with a name more
abbrev pub more : Subscribers → ℕ → List ℕ → Bool → Subscribers
more s client name pattern = with_roll pattern (with_new_name (roll_of pattern s) client name) s

pub count_more : (s : Subscribers) (client : ℕ) (name : List ℕ) (pattern : Bool) (c : ℕ)
    → count_of (more s client name pattern) c
    ≡ cond (c == client) (count_of s client + 1) (count_of s c)
count_more s client name true c =
    ap (λ n. size s.channels c + n) (size_new s.patterns client name c)
    ∙ elim (c == client) as (λ b. (c == client) ≡ b
    → size s.channels c + cond b (size s.patterns client + 1) (size s.patterns c)
    ≡ cond b (count_of s client + 1) (count_of s c)) [
      | true ↦ λ one. let same = ap (size s.channels) (eqb-true c client one) in omega arith
      | false ↦ λ _. refl
    ] refl
count_more s client name false c =
    ap (λ n. n + size s.patterns c) (size_new s.channels client name c)
    ∙ elim (c == client) as (λ b. (c == client) ≡ b
    → cond b (size s.channels client + 1) (size s.channels c) + size s.patterns c
    ≡ cond b (count_of s client + 1) (count_of s c)) [
      | true ↦ λ one. let same = ap (size s.patterns) (eqb-true c client one) in omega arith
      | false ↦ λ _. refl
    ] refl

pub one_more : (s : Subscribers) (client : ℕ) (name : List ℕ) (pattern : Bool)
    → count_of (more s client name pattern) client ≡ count_of s client + 1
one_more s client name pattern = count_more s client name pattern client
    ∙ ap (λ b. cond b (count_of s client + 1) (count_of s client)) (nat_eq_equiv.refl client)

pub few_more : (s : Subscribers) (client : ℕ) (name : List ℕ) (pattern : Bool)
    → count_of s client < most_names → AreFew s → AreFew (more s client name pattern)
few_more s client name pattern room few = λ c.
    subst (λ n. n ≤ most_names) (sym (count_more s client name pattern c))
    (elim (c == client) as (λ b. cond b (count_of s client + 1) (count_of s c) ≤ most_names) [
      | true ↦ omega arith
      | false ↦ few c
    ])

pub moved : (s s' : Subscribers) → s' ≡ s → AreFew s → AreFew s'
moved s s' same few = subst AreFew (sym same) few
