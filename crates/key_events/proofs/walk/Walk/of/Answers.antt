-- Serves the clause on where a walk ends.
use Rattle.std.proofs.Common.{sym, ◌∙◌, arith}
use Rattle.key_events.specs.Patterns.{pieces_of}
use Rattle.key_events.proofs.Walking.{goes_on}
use Rattle.key_events.proofs.walk.Walk.of.Goals as goal

pub loop-piece-preserved : goal.loop-piece-preserved
loop-piece-preserved c = (
  goes_on (pieces_of c.args.pattern.now) c.args.text.now (pieces_of c.loop-piece.rest.now)
      c.in-Some.piece (pieces_of c.in-Some.behind.now) c.loop-piece.left.now
      c.in-Some-split_first.byte.now c.in-Some-split_first.others.now c.in-Some.ensures.first
      c.in-Some-split_first.ensures.cases.0
      (sym c.takes.ensures.takes ∙ c.if-not-takes.false) c.loop-piece.invariant.0,
  omega (arith, c.in-Some.ensures.shorter, c.loop-piece.invariant.1),
  omega (arith, c.in-Some-split_first.ensures.cases.1, c.loop-piece.invariant.2),
)
