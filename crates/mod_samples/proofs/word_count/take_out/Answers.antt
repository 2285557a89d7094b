-- Serves what take_out owes to remove.
use Rattle.std.proofs.Common.{arith}
use Rattle.mod_samples.specs.WordCount.{words_at}
use Rattle.mod_samples.proofs.CountRuns.{some_without, words_rise}
use Rattle.mod_samples.proofs.word_count.take_out.Goals as goal

pub remove-requires : goal.remove-requires
remove-requires g c =
    let keys = (g.C.Context.told c.args.ctx.now).seen.keys in let key = c.args.key.now in
    some_without c.args.word.now (words_at keys key) (words_rise keys key) c.requires (λ one. omega (arith, one))
