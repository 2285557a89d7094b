-- The first line of some bytes. Serves line_size.
use Rattle.std.proofs.Common.{◌≡◌, ℕ, ◌+◌, ◌<◌, ◌≤◌, ◌==◌, Bool, true, false, List, ◌∷◌, ◌++◌, length, take, get_or, sym, ap, ◌∙◌, arith, None, Some, cond, nat_lt, inl, inr}
use Rattle.std.specs.List.{position, position_or_len}
use Rattle.std.proofs.Math.Seq.{get_or-append_seam, take-length}
use Rattle.std.proofs.lemmas.Bool.{false≢true, cases_lt}
use Rattle.std.proofs.lemmas.Bool.Decides.{nat_tests}
use Rattle.std.proofs.lemmas.List.{length-append, length-take-le, get_or-take, nil_from_length}
use Rattle.std.proofs.lemmas.List.Quantifiers.{position-Some}
use Rattle.std.proofs.lemmas.List.Sums.{fails_before_first}
use Rattle.resp_codec.specs.Marks.{lf}
use Rattle.replica_feed.specs.inner.Placing.{IsLineAhead}

abbrev is_lf : ℕ → Bool
is_lf byte = byte == lf

-- an LF stands at the end of what comes before the rest
there : (bytes front more : List ℕ) → bytes ≡ front ++ lf ∷ more → is_lf (get_or bytes (length front) 0) ≡ true
there bytes front more e = ap (λ (b : List ℕ). is_lf (get_or b (length front) 0)) e ∙ ap is_lf (get_or-append_seam front lf more 0)

size : (bytes front more : List ℕ) → bytes ≡ front ++ lf ∷ more → length bytes ≡ length front + (1 + length more)
size bytes front more e = omega (arith, ap (λ (b : List ℕ). length b) e, length-append front (lf ∷ more))

pub up_to_first : (bytes : List ℕ) (end : ℕ) → position is_lf bytes ≡ Some end → (end < length bytes) × IsLineAhead (take (end + 1) bytes)
up_to_first bytes end e =
    let found = position-Some is_lf bytes end 0 e in
    (found.0, line found)
  where
    line : (end < length bytes) × (is_lf (get_or bytes end 0) ≡ true) × ((k : ℕ) → k < end → is_lf (get_or bytes k 0) ≡ false) → IsLineAhead (take (end + 1) bytes)
    line (within, found, none) front more is =
        let long = length-take-le (end + 1) bytes (omega (arith, within)) in
        let sum = size (take (end + 1) bytes) front more is in
        elim (cases_lt (length front) end) [
          | inl before ↦ absurd (false≢true (sym (none (length front) before)
              ∙ ap is_lf (sym (get_or-take (end + 1) bytes (length front) 0 (omega (arith, before))))
              ∙ there (take (end + 1) bytes) front more is))
          | inr at ↦ nil_from_length more (omega (arith, long, sum, at))
        ]

none_found : (place long : ℕ) → cond (nat_lt place long) (Some place) None ≡ None → long ≤ place
none_found place long e = grind (arith, nat_tests)

pub all_of : (bytes : List ℕ) → position is_lf bytes ≡ None → IsLineAhead (take (length bytes) bytes)
all_of bytes none front more is =
    let whole : bytes ≡ front ++ lf ∷ more = sym (take-length bytes) ∙ is in
    let past = none_found (position_or_len is_lf bytes) (length bytes) none in
    absurd (false≢true (sym (fails_before_first is_lf bytes (length front) 0 (omega (arith, past, size bytes front more whole))) ∙ there bytes front more whole))
