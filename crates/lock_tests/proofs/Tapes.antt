-- How a tape's history goes on. Serves the tests' stays.
use Rattle.std.proofs.Common.{◌≡◌, ℕ, ◌+◌, ◌-◌, List, ◌++◌, length, take, ap, ◌∙◌, arith}
use Rattle.std.proofs.Math.Seq.{take-append_seam}
use Rattle.core_types.specs.declared.event.Event.{Event}
use Rattle.context_lock.specs.Histories.{GoesOn}

pub grows : (xs ys es : List Event) → es ≡ xs ++ ys
    → GoesOn (record { first = 0; events = xs }) (record { first = 0; events = es })
grows xs ys es is =
    let k : (0 + length xs) - 0 ≡ length xs = omega arith in
    record {
      cut = omega arith;
      reached = omega arith;
      keeps = ap (λ n. take n es) k ∙ (ap (take (length xs)) is ∙ take-append_seam xs ys);
    }
