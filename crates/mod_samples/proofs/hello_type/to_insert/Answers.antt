-- Serves the clause of to_insert.
use Rattle.std.proofs.Common.{sym, ap, ◌∙◌, arith}
use Rattle.byte_text.specs.Name.{same_name}
use Rattle.byte_text.specs.Number.{i64_of}
use Rattle.mod_samples.specs.HelloType.{insert_name}
use Rattle.mod_samples.proofs.HelloRuns.{insert_read, other_count, other_name}
use Rattle.mod_samples.proofs.hello_type.to_insert.Goals as goal
use Rattle.mod_samples.proofs.hello_type.to_insert.Goals.{else-len-eq3-via-then-len-eq3+else-same_name, else-len-eq3-via-else-len-eq3}

pub returns-then-same_name : goal.returns-then-same_name
returns-then-same_name c =
    let words = c.args.words.now in
    c.read_i64.ensures.value ∙ ap i64_of c.word_at-then-same_name.ensures
    ∙ insert_read words (sym c.len.ensures.length ∙ c.if-len-eq3.true)
    (ap (λ name. same_name name insert_name) (sym c.word_at.ensures) ∙ sym c.same_name.ensures.value ∙ c.if-same_name.true)

pub returns-else-len-eq3 : goal.returns-else-len-eq3
returns-else-len-eq3 c =
    let words = c.args.words.now in
    elim c.else-len-eq3.branch [
      | else-len-eq3-via-then-len-eq3+else-same_name w ↦ other_name words
          (ap (λ name. same_name name insert_name) (sym w.word_at.ensures) ∙ sym w.same_name.ensures.value ∙ w.if-same_name.false)
      | else-len-eq3-via-else-len-eq3 w ↦ other_count words (λ three. omega (arith, three, w.if-len-eq3.false, c.len.ensures.length))
    ]
