-- Serves the clause on who was found: what is left is still to be looked at.
use Rattle.std.proofs.Common.{◌≡◌, ℕ, ◌||◌}
use Rattle.std.specs.FinSet as set
use Rattle.key_events.specs.inner.Lines.{is_found}
use Rattle.key_events.proofs.lines.matching.Given as goal

abbrev pub invariant-loop-pattern : goal.invariant-loop-pattern
invariant-loop-pattern l = (q : ℕ) → (set.contains l.found q || is_found l.text q l.pattern-iterator)
    ≡ is_found l.text q l.lines.entries
