-- Serves the law `names_by_bytes`, and `same` of `same_name`.
use Rattle.std.proofs.Common.{◌≡◌, ◌↔◌, ℕ, Bool, List, [], ◌∷◌, map, length, ap, inl, inr, refl, arith, IsTrue}
use Rattle.std.specs.Char.{to_ascii_uppercase, to_ascii_lowercase}
use Rattle.std.proofs.lemmas.Bool.Decides.{nat_tests, same_from_decides}
use Rattle.std.proofs.lemmas.List.{length-map}
use Rattle.std.proofs.lemmas.Slice.Eq.{bytes_eq-Decides}
use Rattle.byte_text.specs.Name.{upper_name, same_name, DiffersInCase, DifferInCase}

upper_from_lower : (x y : ℕ) → to_ascii_lowercase x ≡ to_ascii_lowercase y → to_ascii_uppercase x ≡ to_ascii_uppercase y
upper_from_lower x y e = grind (arith, nat_tests)

lower_from_upper : (x y : ℕ) → to_ascii_uppercase x ≡ to_ascii_uppercase y → to_ascii_lowercase x ≡ to_ascii_lowercase y
lower_from_upper x y e = grind (arith, nat_tests)

-- where one change of bytes tells two lists apart, so does another that tells the same bytes apart
map_same : (f g : ℕ → ℕ) → ((x y : ℕ) → f x ≡ f y → g x ≡ g y) → (xs ys : List ℕ) → map f xs ≡ map f ys → map g xs ≡ map g ys
map_same f g same [] [] e = refl
map_same f g same [] (y ∷ ys) e = cc
map_same f g same (x ∷ xs) [] e = cc
map_same f g same (x ∷ xs) (y ∷ ys) e =
    let head : f x ≡ f y = cc in
    let tail : map f xs ≡ map f ys = cc in
    cc (same x y head, map_same f g same xs ys tail)

pub upper_names : (xs ys : List ℕ) → map to_ascii_lowercase xs ≡ map to_ascii_lowercase ys → upper_name xs ≡ upper_name ys
upper_names = map_same to_ascii_lowercase to_ascii_uppercase upper_from_lower

pub lower_names : (xs ys : List ℕ) → upper_name xs ≡ upper_name ys → map to_ascii_lowercase xs ≡ map to_ascii_lowercase ys
lower_names = map_same to_ascii_uppercase to_ascii_lowercase lower_from_upper

differs : (x y : ℕ) → to_ascii_uppercase x ≡ to_ascii_uppercase y → DiffersInCase x y
differs x y e = grind (arith, nat_tests)

same_upper : (x y : ℕ) → DiffersInCase x y → to_ascii_uppercase x ≡ to_ascii_uppercase y
same_upper x y (inl e) = ap to_ascii_uppercase e
same_upper x y (inr (inl h)) = grind (arith, nat_tests)
same_upper x y (inr (inr h)) = grind (arith, nat_tests)

bytes_differ : (a b : List ℕ) → upper_name a ≡ upper_name b → DifferInCase a b
bytes_differ [] [] e = tt
bytes_differ [] (y ∷ ys) e = cc
bytes_differ (x ∷ xs) [] e = cc
bytes_differ (x ∷ xs) (y ∷ ys) e =
    let head : to_ascii_uppercase x ≡ to_ascii_uppercase y = cc in
    let tail : upper_name xs ≡ upper_name ys = cc in
    (differs x y head, bytes_differ xs ys tail)

upper_same : (a b : List ℕ) → DifferInCase a b → upper_name a ≡ upper_name b
upper_same [] [] h = refl
upper_same [] (y ∷ ys) h = absurd h
upper_same (x ∷ xs) [] h = absurd h
upper_same (x ∷ xs) (y ∷ ys) h = cc (same_upper x y h.0, upper_same xs ys h.1)

pub by_bytes : (a b : List ℕ) → (upper_name a ≡ upper_name b) ↔ DifferInCase a b
by_bytes a b = (bytes_differ a b, upper_same a b)

upper_twice : (x : ℕ) → to_ascii_uppercase (to_ascii_uppercase x) ≡ to_ascii_uppercase x
upper_twice x = grind (arith, nat_tests)

pub upper-length : (a : List ℕ) → length (upper_name a) ≡ length a
upper-length a = length-map a to_ascii_uppercase

pub upper_again : (a : List ℕ) → upper_name (upper_name a) ≡ upper_name a
upper_again [] = refl
upper_again (x ∷ xs) = cc (upper_twice x, upper_again xs)

-- what tells two names apart is the test of them
pub same_test : (a b : List ℕ) (result : Bool) → IsTrue result ↔ (upper_name a ≡ upper_name b) → result ≡ same_name a b
same_test a b result h =
    same_from_decides result (same_name a b) h (bytes_eq-Decides (upper_name a) (upper_name b))
