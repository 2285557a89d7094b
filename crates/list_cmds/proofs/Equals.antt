-- Serves clause does of remove: where no item goes, the list is as it was.
use Rattle.std.proofs.Common.{◌≡◌, ◌≤◌, ◌+◌, ℕ, zero, suc, ℤ, pos, negsuc, Bool, true, false, if◌then◌else◌, List, [], ◌∷◌, length, reverse, refl, sym, ap, ◌∙◌, arith}
use Rattle.std.specs.Str.{bytes_eq}
use Rattle.std.proofs.lemmas.List.{length-reverse, reverse-reverse}
use Rattle.core_types.specs.Equal.{without_first, without_last}
use Rattle.list_cmds.specs.Taking.{without}

if_shorter : (b : Bool) (x : List ℕ) (xs with_it without_it : List (List ℕ)) → length without_it ≤ length xs → length with_it ≤ length xs → length (if b then without_it else x ∷ with_it) ≤ length (x ∷ xs)
if_shorter true x xs with_it without_it h k = omega (arith, h)
if_shorter false x xs with_it without_it h k = omega (arith, k)

shorter : (most : ℕ) (item : List ℕ) (xs : List (List ℕ)) → length (without_first most item xs) ≤ length xs
shorter most item [] = omega arith
shorter zero item (x ∷ xs) = omega arith
shorter (suc most) item (x ∷ xs) = if_shorter (bytes_eq x item) x xs _ _ (shorter most item xs) (shorter (suc most) item xs)

same_if : (b : Bool) (x : List ℕ) (xs with_it without_it : List (List ℕ)) → length without_it ≤ length xs → (length with_it ≡ length xs → with_it ≡ xs) → length (if b then without_it else x ∷ with_it) ≡ length (x ∷ xs) → (if b then without_it else x ∷ with_it) ≡ x ∷ xs
same_if true x xs with_it without_it h k e = absurd (omega (arith, h, e))
same_if false x xs with_it without_it h k e = ap (λ l. x ∷ l) (k (omega (arith, e)))

same_first : (most : ℕ) (item : List ℕ) (xs : List (List ℕ)) → length (without_first most item xs) ≡ length xs → without_first most item xs ≡ xs
same_first most item [] h = refl
same_first zero item (x ∷ xs) h = refl
same_first (suc most) item (x ∷ xs) h = same_if (bytes_eq x item) x xs _ _ (shorter most item xs) (same_first (suc most) item xs) h

same_last : (most : ℕ) (item : List ℕ) (xs : List (List ℕ)) → length (without_last most item xs) ≡ length xs → without_last most item xs ≡ xs
same_last most item xs h =
    ap reverse (same_first most item (reverse xs) (sym (length-reverse (without_first most item (reverse xs))) ∙ h ∙ sym (length-reverse xs)))
    ∙ reverse-reverse xs

pub same_without : (n : ℤ) (item : List ℕ) (xs : List (List ℕ)) → length (without n item xs) ≡ length xs → without n item xs ≡ xs
same_without (pos zero) item xs h = same_first (length xs) item xs h
same_without (pos (suc n)) item xs h = same_first (suc n) item xs h
same_without (negsuc n) item xs h = same_last (n + 1) item xs h
