-- Serves the clauses of copies and range, and clause does of trim.
use Rattle.std.proofs.Common.{◌≡◌, ◌≤◌, ◌<◌, ◌+◌, ◌-◌, ◌++◌, nat_lt, min, ℕ, Bool, true, false, List, [], ◌∷◌, length, take, drop, Some, refl, sym, ap, ◌∙◌, arith, length-take, length-drop}
use Rattle.std.specs.Prelude.{◌==◌, slice_get, slice_range}
use Rattle.std.specs.List.{slice_index_or}
use Rattle.std.proofs.lemmas.List.{get_or-drop, take_more}
use Rattle.std.proofs.lemmas.Option.{get_or_from_slice_get, slice_get_within}
use Rattle.std.proofs.lemmas.Bool.Decides.{nat_tests}
use Rattle.core_types.specs.Several.{Several}
use Rattle.core_types.specs.declared.part.Part.TheVariants as part
use Rattle.list_cmds.specs.Reading.{bulks}

-- one item more
pub slice_more : (xs : List (List ℕ)) (a b : ℕ) (x : List ℕ) → a ≤ b → slice_get xs b ≡ Some x → slice_range xs a (b + 1) ≡ slice_range xs a b ++ x ∷ []
slice_more xs a b x h e =
    let within : b < length xs = slice_get_within xs b x e in
    let rest : b - a < length (drop a xs) = rw (length-drop a xs) (omega (arith, h, within)) in
    let size : b + 1 - a ≡ b - a + 1 = omega (arith, h) in
    let place : a + (b - a) ≡ b = omega (arith, h) in
    ap (λ n. take n (drop a xs)) size
    ∙ take_more (drop a xs) (b - a) x rest
    ∙ ap (λ y. take (b - a) (drop a xs) ++ y ∷ [])
    (get_or-drop a xs (b - a) x ∙ ap (λ n. slice_index_or xs n x) place ∙ get_or_from_slice_get xs b x x e)

pub bulks_more : (xs : List (List ℕ)) (x : List ℕ) → bulks (xs ++ x ∷ []) ≡ bulks xs ++ part.Bulk x ∷ []
bulks_more [] x = refl
bulks_more (y ∷ ys) x = ap (λ l. part.Bulk y ∷ l) (bulks_more ys x)

pub several_by : (s : Several) (left : List (List ℕ)) → s.count ≡ length left → s.parts ≡ bulks left → s ≡ record { count = length left; parts = bulks left }
several_by s left e f = rw (← e, ← f) refl

cut_by : (xs : List (List ℕ)) (a b : ℕ) (t : Bool) → nat_lt b a ≡ t → slice_range xs (min a b) b ≡ slice_range xs a b
cut_by xs a b true e =
    let first : b - min a b ≡ 0 = grind (arith, nat_tests) in
    let second : b - a ≡ 0 = grind (arith, nat_tests) in
    ap (λ n. take n (drop (min a b) xs)) first ∙ sym (ap (λ n. take n (drop a xs)) second)
cut_by xs a b false e =
    let same : min a b ≡ a = grind (arith, nat_tests) in
    ap (λ n. slice_range xs n b) same

-- a range that begins behind its end takes nothing
pub cut_items : (xs : List (List ℕ)) (a b start end : ℕ) → start ≡ min a b → end ≡ b → slice_range xs start end ≡ slice_range xs a b
cut_items xs a b start end e f = rw (e, f) (cut_by xs a b _ refl)

pub cut_count : (xs : List (List ℕ)) (a b start end : ℕ) → start ≡ min a b → end ≡ b → end ≤ length xs → end - start ≡ length (slice_range xs a b)
cut_count xs a b start end e f h =
    omega (arith, e, f, h, length-take (b - a) (drop a xs), length-drop a xs)

tests_same : (m n k : ℕ) (p q : Bool) → k - n ≡ m → n ≤ k → (m == 0) ≡ p → (n == k) ≡ q → p ≡ q
tests_same m n k true true g h e f = refl
tests_same m n k false false g h e f = refl
tests_same m n k true false g h e f = absurd (grind (arith, nat_tests))
tests_same m n k false true g h e f = absurd (grind (arith, nat_tests))

pub cut_empty : (xs : List (List ℕ)) (a b start end : ℕ) → start ≡ min a b → end ≡ b → end ≤ length xs → (length (slice_range xs a b) == 0) ≡ (start == end)
cut_empty xs a b start end e f h =
    tests_same _ start end _ _ (cut_count xs a b start end e f h) (omega (arith, e, f)) refl refl
