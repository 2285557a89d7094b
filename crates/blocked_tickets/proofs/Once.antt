-- Lists in which each number stands once. They serve the clause of `leave` on what is left, and
-- that the ready tickets stand in their line once.
use Rattle.std.proofs.Common.{◌≡◌, ℕ, ◌==◌, Bool, true, false, cond, not, ◌&&◌, ◌||◌, List, [], ◌∷◌, ◌++◌, filter, nat_eq, Option, Some, refl, sym, ap, subst, ◌∙◌}
use Rattle.std.specs.List.{IsDistinct, AllByRecursion}
use Rattle.std.specs.Option.{option_to_list}
use Rattle.std.specs.Cmp.{nat_eq_equiv}
use Rattle.std.specs.Set.{is_member}
use Rattle.std.proofs.lemmas.Map.Made.{is_member-filter}

-- the list without one number
abbrev pub without : ℕ → List ℕ → List ℕ
without n xs = filter (λ x. not (x == n)) xs

-- none of them is the number
all_stay : (n : ℕ) (xs : List ℕ) → AllByRecursion (λ y. nat_eq n y ≡ false) xs → without n xs ≡ xs
all_stay n [] none = refl
all_stay n (x ∷ xs) none =
    ap (λ b. cond (not b) (x ∷ without n xs) (without n xs)) (nat_eq_equiv.symm x n ∙ none.0) ∙ ap (λ ys. x ∷ ys) (all_stay n xs none.1)

-- the first leaves the others
pub first_leaves : (n : ℕ) (xs : List ℕ) → IsDistinct nat_eq (n ∷ xs) → without n (n ∷ xs) ≡ xs
unfolding IsDistinct
first_leaves n xs once = ap (λ b. cond (not b) (n ∷ without n xs) (without n xs)) (nat_eq_equiv.refl n) ∙ all_stay n xs once.0

-- what the first leaves once it was taken out
pub popped : (n : ℕ) (xs ys : List ℕ) (first : Option ℕ) → IsDistinct nat_eq xs → xs ≡ option_to_list first ++ ys → first ≡ Some n → ys ≡ without n xs
popped n xs ys first once taken is =
    let whole : xs ≡ n ∷ ys = taken ∙ ap (λ r. option_to_list r ++ ys) is in
    sym (ap (without n) whole ∙ first_leaves n ys (subst (IsDistinct nat_eq) whole once))

-- a test of each holds after one that passes is added, and after a filter
all_push : (p : ℕ → Bool) (xs : List ℕ) (y : ℕ) → AllByRecursion (λ x. p x ≡ false) xs → p y ≡ false → AllByRecursion (λ x. p x ≡ false) (xs ++ y ∷ [])
all_push p [] y all here = (here, tt)
all_push p (x ∷ xs) y all here = (all.0, all_push p xs y all.1 here)

all_kept : (p q : ℕ → Bool) (xs : List ℕ) → AllByRecursion (λ x. p x ≡ false) xs → AllByRecursion (λ x. p x ≡ false) (filter q xs)
all_kept p q [] all = tt
all_kept p q (x ∷ xs) all =
    let rest = all_kept p q xs all.1 in
    elim (q x) as (λ b. AllByRecursion (λ x. p x ≡ false) (cond b (x ∷ filter q xs) (filter q xs))) [ true ↦ (all.0, rest) | false ↦ rest ]

-- a new number stands once too
pub once_push : (xs : List ℕ) (n : ℕ) → IsDistinct nat_eq xs → is_member nat_eq xs n ≡ false → IsDistinct nat_eq (xs ++ n ∷ [])
unfolding IsDistinct
once_push [] n once new = (tt, tt)
once_push (x ∷ xs) n once new =
    (all_push (nat_eq x) xs n once.0 (nat_eq_equiv.symm x n ∙ left (nat_eq n x) _ new), once_push xs n once.1 (right (nat_eq n x) _ new))
  where
    left : (a b : Bool) → (a || b) ≡ false → a ≡ false
    left true b e = e
    left false b e = refl

    right : (a b : Bool) → (a || b) ≡ false → b ≡ false
    right true b e = absurd (Prim.cc)
    right false b e = e

pub once_filter : (q : ℕ → Bool) (xs : List ℕ) → IsDistinct nat_eq xs → IsDistinct nat_eq (filter q xs)
unfolding IsDistinct
once_filter q [] once = tt
once_filter q (x ∷ xs) once =
    let rest = once_filter q xs once.1 in
    elim (q x) as (λ b. IsDistinct nat_eq (cond b (x ∷ filter q xs) (filter q xs))) [ true ↦ (all_kept (nat_eq x) q xs once.0, rest) | false ↦ rest ]

-- which numbers stand in the list with one more, and without one
pub member_push : (xs : List ℕ) (n q : ℕ) → is_member nat_eq (xs ++ n ∷ []) q ≡ cond (q == n) true (is_member nat_eq xs q)
member_push [] n q = elim (q == n) as (λ b. (b || false) ≡ cond b true false) [ true ↦ refl | false ↦ refl ]
member_push (x ∷ xs) n q = ap (λ b. (q == x) || b) (member_push xs n q) ∙ joined (q == x) (q == n) (is_member nat_eq xs q)
  where
    joined : (a b c : Bool) → (a || cond b true c) ≡ cond b true (a || c)
    joined true true c = refl
    joined true false c = refl
    joined false b c = refl

pub member_without : (xs : List ℕ) (n q : ℕ) → is_member nat_eq (without n xs) q ≡ cond (q == n) false (is_member nat_eq xs q)
member_without xs n q =
    is_member-filter nat_eq_equiv (λ x. not (x == n)) q (λ x e. ap not (nat_eq_equiv.congr q x n e)) xs ∙ joined (q == n) (is_member nat_eq xs q)
  where
    joined : (b c : Bool) → (c && not b) ≡ cond b false c
    joined true true = refl
    joined true false = refl
    joined false true = refl
    joined false false = refl
