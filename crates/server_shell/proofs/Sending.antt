-- Serves the clauses of `put_all`: bytes that are handed on in pieces.
use Rattle.std.proofs.Common.{◌≡◌, ℕ, ◌+◌, Option, subst, List, ◌++◌, take, drop, sym, ap, ◌∙◌}
use Rattle.std.proofs.Math.Seq.{take-add}
use Rattle.std.proofs.KnownBytes.{Appends-trans}
use Rattle.std.specs.Io.KnownBytes.{Appends}

-- a piece more was sent, of the bytes that were left
pub sent_more : (before mid now : Option (List ℕ)) (bytes rest : List ℕ) (done count : ℕ) → rest ≡ drop done bytes → Appends before mid (take done bytes) → Appends mid now (take count rest) → Appends before now (take (done + count) bytes)
sent_more before mid now bytes rest done count is first second =
    let all : take done bytes ++ take count rest ≡ take (done + count) bytes = ap (λ (r : List ℕ). take done bytes ++ take count r) is ∙ sym (take-add done count bytes) in
    subst (λ (sent : List ℕ). Appends before now sent) all (Appends-trans before mid now _ _ first second)
