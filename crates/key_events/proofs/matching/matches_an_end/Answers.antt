-- Serves the clause on the ends of a text.
use Rattle.std.proofs.Common.{sym, ◌∙◌}
use Rattle.key_events.specs.Patterns.{pieces_of, fits}
use Rattle.key_events.proofs.Walking.{first_place, all_passes}
use Rattle.key_events.proofs.matching.matches_an_end.Goals as goal

pub loop-behind-preserved-in-Star : goal.loop-behind-preserved-in-Star
loop-behind-preserved-in-Star c = c.loop-behind.invariant
    ∙ first_place (pieces_of c.loop-behind.rest.now) c.loop-behind.left.now
    (pieces_of c.in-Star.behind.now) c.in-Star.others.now c.in-Star.ensures.walked.0

pub returns-in-Ends-true : goal.returns-in-Ends-true
returns-in-Ends-true c = record {
  matches = sym (c.loop-behind.invariant
      ∙ all_passes (fits (pieces_of c.loop-behind.rest.now)) c.loop-behind.left.now
      (c.in-Ends-true.ensures.walked ∙ c.in-Ends-true.field-0-test));
}
