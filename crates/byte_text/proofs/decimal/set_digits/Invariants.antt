use Rattle.byte_text.proofs.WritingDigits.{HasSet}
use Rattle.byte_text.proofs.decimal.set_digits.Given as goal

abbrev pub invariant-loop-rest : goal.invariant-loop-rest
invariant-loop-rest l = HasSet l.row l.first l.rest l.n

abbrev pub decreases-loop-rest : goal.decreases-loop-rest
decreases-loop-rest l = l.rest
