-- Serves the clause of judge.
use Rattle.std.proofs.Common.{◌∙◌}
use Rattle.std.proofs.lemmas.Bool.{false≢true}
use Rattle.replica_feed.proofs.Judging.{neither}
use Rattle.replica_feed.proofs.words.judge.Goals.{else-len-eq4-via-then-len-eq4+else-eq, else-len-eq4-via-else-len-eq4, else-len-eq5-via-then-len-eq5+else-eq-2, else-len-eq5-via-else-len-eq5}
use Rattle.replica_feed.proofs.words.judge.Goals as goal

pub returns : goal.returns
returns c = neither c.args.words.now
    (λ is. elim c.else-len-eq4.branch [
      | else-len-eq4-via-then-len-eq4+else-eq w ↦ false≢true (rw (w.word.ensures.word ∙ is.1, w.as_slice.ensures) at w.if-eq.ensures)
      | else-len-eq4-via-else-len-eq4 w ↦ w.if-len-eq4.false (c.len.ensures.length ∙ is.0)
    ])
    (λ is. elim c.else-len-eq5.branch [
      | else-len-eq5-via-then-len-eq5+else-eq-2 w ↦ false≢true (rw (w.word-then-len-eq5.ensures.word ∙ is.1, w.as_slice-then-len-eq5.ensures) at w.if-eq-2.ensures)
      | else-len-eq5-via-else-len-eq5 w ↦ w.if-len-eq5.false (c.len-2.ensures.length ∙ is.0)
    ])
