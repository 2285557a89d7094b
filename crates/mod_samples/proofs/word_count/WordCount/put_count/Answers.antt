-- Serves what put_count owes to set.
use Rattle.std.proofs.Common.{sym, ◌∙◌}
use Rattle.mod_samples.proofs.CountRuns.{positive_count}
use Rattle.mod_samples.proofs.word_count.WordCount.put_count.Goals as goal

pub set-requires-clause-count : goal.set-requires-clause-count
set-requires-clause-count g c = positive_count c.word_at.result.now c.in-Some.n (sym c.positive.ensures ∙ c.in-Some.is)
