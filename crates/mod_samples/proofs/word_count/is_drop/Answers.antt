-- Serves the clause of is_drop.
use Rattle.std.proofs.Common.{sym, ap, ◌∙◌}
use Rattle.byte_text.specs.Name.{same_name}
use Rattle.mod_samples.specs.WordCount.{drop_name}
use Rattle.mod_samples.proofs.CountRuns.{drop_read}
use Rattle.mod_samples.proofs.word_count.is_drop.Goals as goal

pub returns-then-len-eq3 : goal.returns-then-len-eq3
returns-then-len-eq3 c =
    c.same_name.ensures.value ∙ ap (λ name. same_name name drop_name) c.word_at.ensures
    ∙ drop_read c.args.words.now (sym c.len.ensures.length ∙ c.if-len-eq3.true)
