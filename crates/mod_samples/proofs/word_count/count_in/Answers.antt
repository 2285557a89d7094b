-- Serves clause count of count_in.
use Rattle.std.proofs.Common.{Some, sym, ap, ◌∙◌}
use Rattle.std.specs.Option.{option_map}
use Rattle.mod_samples.specs.Counts.{count_at}
use Rattle.mod_samples.proofs.CountRuns.{counts_found}
use Rattle.mod_samples.proofs.word_count.count_in.Goals as goal

pub returns-in-Ok-clause-count : goal.returns-in-Ok-clause-count
returns-in-Ok-clause-count g c =
    let value = c.in-Ok.value.now in
    ap (λ n. Some n) c.get.ensures.count
    ∙ sym (ap (option_map (count_at c.args.word.now)) (counts_found (g.C.Context.told c.args.ctx.now).seen.keys c.args.key.now value.counts value.counted c.in-Ok.ensures.value))
