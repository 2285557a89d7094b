use Rattle.resp_codec.specs.inner.Line.{IsSearched}
use Rattle.resp_codec.proofs.line.find.Given as goal

abbrev pub invariant-loop-place : goal.invariant-loop-place
invariant-loop-place l = IsSearched l.sought l.place l.bytes
