-- A walk round a list. Serves clause `left` of ListBody::remove_first and remove_last.
use Rattle.std.proofs.Common.{◌≡◌, ℕ, zero, suc, ◌+◌, ◌-◌, ◌≤◌, ◌<◌, ◌⊎◌, inl, inr, Bool, true, false, List, [], ◌∷◌, ◌++◌, length, take, drop, if◌then◌else◌, ◌&&◌, nat_lt, slice_index_or, true≢false, refl, sym, ap, arith, append_assoc}
use Rattle.std.proofs.lemmas.Bool.{ltb-true, ltb-false}
use Rattle.std.proofs.lemmas.List.{take-append-le, drop-append-le}
use Rattle.std.specs.Str.{bytes_eq}
use Rattle.core_types.specs.Equal.{without_first, turned_list}

-- what stays so far, and what will stay of `more` others, of which `may` may still go
abbrev pub going_round : ℕ → ℕ → List ℕ → List (List ℕ) → List (List ℕ)
going_round more may item items = drop more items ++ without_first may item (take more items)

without_none : (item : List ℕ) (items : List (List ℕ)) → without_first 0 item items ≡ items
without_none item [] = refl
without_none item (x ∷ xs) = refl

kept_first : (may : ℕ) (item x : List ℕ) (xs : List (List ℕ)) → (may ≡ 0) ⊎ (bytes_eq x item ≡ false) → x ∷ without_first may item xs ≡ without_first may item (x ∷ xs)
kept_first zero item x xs why = ap (λ (ys : List (List ℕ)). x ∷ ys) (without_none item xs)
kept_first (suc may) item x xs (inl none) = absurd (omega (arith, none))
kept_first (suc may) item x xs (inr other) =
    ap (λ b. if b then without_first may item xs else (x ∷ without_first (suc may) item xs)) (sym other)

-- the first item is equal, and goes
pub round_gone : (more may : ℕ) (item x : List ℕ) (xs : List (List ℕ)) → bytes_eq x item ≡ true → going_round more may item xs ≡ going_round (suc more) (suc may) item (x ∷ xs)
round_gone more may item x xs same =
    ap (λ b. drop more xs ++ (if b then without_first may item (take more xs) else (x ∷ without_first (suc may) item (take more xs)))) (sym same)

-- the first item stays, and goes last
pub round_kept : (more may : ℕ) (item x : List ℕ) (xs : List (List ℕ)) → more ≤ length xs → (may ≡ 0) ⊎ (bytes_eq x item ≡ false) → going_round more may item (xs ++ x ∷ []) ≡ going_round (suc more) may item (x ∷ xs)
round_kept more may item x xs there why =
    rw (take-append-le more xs (x ∷ []) there, drop-append-le more xs (x ∷ []) there, append_assoc (drop more xs) (x ∷ []) (without_first may item (take more xs)))
    (ap (λ (ys : List (List ℕ)). drop more xs ++ ys) (kept_first may item x (take more xs) why))

both : (a b : Bool) → true ≡ (a && b) → (a ≡ true) × (b ≡ true)
both true true e = (refl, refl)
both true false e = absurd (true≢false e)
both false b e = absurd (true≢false e)

either : (a b : Bool) → false ≡ (a && b) → (a ≡ false) ⊎ (b ≡ false)
either true b e = inr (sym e)
either false b e = inl refl

-- one step, where `removed` of at most `most` items are gone: how many are gone then, and what that
-- leaves
pub step : (gone : Bool) (left removed most : ℕ) (item : List ℕ) (items : List (List ℕ)) → left < length items → gone ≡ (nat_lt removed most && bytes_eq (slice_index_or items 0 []) item) → going_round left (most - (removed + (if gone then 1 else 0))) item (turned_list gone items) ≡ going_round (suc left) (most - removed) item items
step gone left removed most item [] there is = absurd (omega (arith, there))
step true left removed most item (x ∷ xs) there is =
    let why = both (nat_lt removed most) (bytes_eq x item) is in
    let below = ltb-true removed most why.0 in
    let one : most - removed ≡ suc (most - (removed + 1)) = omega (arith, below) in
    rw one (round_gone left (most - (removed + 1)) item x xs why.1)
step false left removed most item (x ∷ xs) there is =
    let why : ((most - removed) ≡ 0) ⊎ (bytes_eq x item ≡ false) = elim (either (nat_lt removed most) (bytes_eq x item) is) [
      | inl none ↦ inl (let over = ltb-false removed most none in omega (arith, over))
      | inr other ↦ inr other
    ] in
    let within : left ≤ length xs = omega (arith, there) in
    let same : removed + 0 ≡ removed = omega arith in
    rw same (round_kept left (most - removed) item x xs within why)

-- one item a step
pub one_at_most : (gone : Bool) → (if gone then 1 else 0) ≤ 1
one_at_most true = omega arith
one_at_most false = omega arith

-- no more are gone than may go
pub within : (gone : Bool) (removed most : ℕ) (same : Bool) → removed ≤ most → gone ≡ (nat_lt removed most && same) → removed + (if gone then 1 else 0) ≤ most
within true removed most same so_far is =
    let below = ltb-true removed most (both (nat_lt removed most) same is).0 in
    omega (arith, below)
within false removed most same so_far is = omega (arith, so_far)
