use Rattle.std.proofs.Common.{sym, arith}
use Rattle.std.proofs.lemmas.Int.{ints}
use Rattle.resp_codec.proofs.Counts.{many}
use Rattle.resp_codec.proofs.number.read_count.Goals as goal

pub returns-then-count-gt-MOST_WORDS-clause-none : goal.returns-then-count-gt-MOST_WORDS-clause-none
returns-then-count-gt-MOST_WORDS-clause-none c =
    many c.args.text.now c.in_ok-count.count (sym c.in_ok-count.ensures.value) (λ few. omega (arith, ints, c.if-count-gt-MOST_WORDS.true))
