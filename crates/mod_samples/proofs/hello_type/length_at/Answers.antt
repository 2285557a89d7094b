-- Serves the clause of length_at.
use Rattle.std.proofs.Common.{length, Some, sym, ap, ◌∙◌}
use Rattle.std.specs.Option.{option_map}
use Rattle.mod_samples.proofs.HelloRuns.{numbers_found}
use Rattle.mod_samples.proofs.hello_type.length_at.Goals as goal

pub returns-in-Ok : goal.returns-in-Ok
returns-in-Ok g c =
    let list = c.in-Ok.list.now in
    ap (λ n. Some n) c.len.ensures
    ∙ sym (ap (option_map length) (numbers_found (g.C.Context.told c.args.ctx.now).seen.keys c.args.key.now list.numbers list.rising c.in-Ok.ensures.value))
