-- Serves the clauses of count_there: a name that is not there counts no more.
use Rattle.std.proofs.Common.{◌≡◌, ◌≤◌, ◌+◌, ◌-◌, ℕ, suc, Bool, true, false, List, [], ◌∷◌, length, filter, if◌then◌else◌, ap, ◌∙◌, arith}

few_case : (b : Bool) (name : List ℕ) (kept more : List (List ℕ)) → length kept ≤ length more → length (if b then name ∷ kept else kept) ≤ length (name ∷ more)
few_case true name kept more h = omega (arith, h)
few_case false name kept more h = omega (arith, h)

few : (p : List ℕ → Bool) (names : List (List ℕ)) → length (filter p names) ≤ length names
few p [] = omega arith
few p (name ∷ more) = few_case (p name) name (filter p more) more (few p more)

pub one_missing : (p : List ℕ → Bool) (name : List ℕ) (all rest : List (List ℕ)) (count n : ℕ) → all ≡ name ∷ rest → p name ≡ false
    → count + length (filter p all) ≡ n + length all → (1 ≤ count) × (count - 1 + length (filter p rest) ≡ n + length rest)
one_missing p name all rest count n same test sum =
    let kept : length (filter p all) ≡ length (filter p rest) =
    ap (λ names. length (filter p names)) same ∙ ap (λ (b : Bool). length (if b then name ∷ filter p rest else filter p rest)) test in
    let long : length all ≡ suc (length rest) = ap length same in
    (omega (arith, kept, long, sum, few p rest), omega (arith, kept, long, sum, few p rest))
