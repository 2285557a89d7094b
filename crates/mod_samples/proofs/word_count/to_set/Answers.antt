-- Serves the clause of to_set.
use Rattle.std.proofs.Common.{sym, ap, ◌∙◌, arith}
use Rattle.byte_text.specs.Name.{same_name}
use Rattle.byte_text.specs.Number.{i64_of}
use Rattle.mod_samples.specs.WordCount.{positive, set_name}
use Rattle.mod_samples.proofs.CountRuns.{set_other_count, set_other_name, set_read}
use Rattle.mod_samples.proofs.word_count.to_set.Goals as goal
use Rattle.mod_samples.proofs.word_count.to_set.Goals.{else-len-eq4-via-then-len-eq4+else-same_name, else-len-eq4-via-else-len-eq4}

pub returns-then-same_name : goal.returns-then-same_name
returns-then-same_name c =
    let words = c.args.words.now in
    c.positive.ensures ∙ ap (λ t. positive (i64_of t)) c.word_at-then-same_name.ensures
    ∙ set_read words (sym c.len.ensures.length ∙ c.if-len-eq4.true)
    (ap (λ name. same_name name set_name) (sym c.word_at.ensures) ∙ sym c.same_name.ensures.value ∙ c.if-same_name.true)

pub returns-else-len-eq4 : goal.returns-else-len-eq4
returns-else-len-eq4 c =
    let words = c.args.words.now in
    elim c.else-len-eq4.branch [
      | else-len-eq4-via-then-len-eq4+else-same_name w ↦ set_other_name words
          (ap (λ name. same_name name set_name) (sym w.word_at.ensures) ∙ sym w.same_name.ensures.value ∙ w.if-same_name.false)
      | else-len-eq4-via-else-len-eq4 w ↦ set_other_count words (λ four. omega (arith, four, w.if-len-eq4.false, c.len.ensures.length))
    ]
