-- Serves the clause of words_in.
use Rattle.std.proofs.Common.{length, sym, ap, ◌∙◌}
use Rattle.mod_samples.proofs.CountRuns.{words_found}
use Rattle.mod_samples.proofs.word_count.words_in.Goals as goal

pub returns-in-Ok : goal.returns-in-Ok
returns-in-Ok g c =
    let value = c.in-Ok.value.now in
    c.len.ensures ∙ sym (ap length (words_found (g.C.Context.told c.args.ctx.now).seen.keys c.args.key.now value.counts value.counted c.in-Ok.ensures.value))
