-- Serves clause ok of counts_in.
use Rattle.std.proofs.Common.{◌≡◌, ℕ, ◌+◌, ◌-◌, ◌<◌, ◌++◌, ◌∷◌, [], None, Ok, length, true, sym, ap, ◌∙◌, subst, arith}
use Rattle.std.specs.Option.{option_copied}
use Rattle.mod_samples.specs.CountParts.{first_counted}
use Rattle.mod_samples.specs.Counts.{Counted, counted, counts_rise, is_behind, last_word}
use Rattle.mod_samples.specs.inner.CountsBack.{Fits, first_fits}
use Rattle.mod_samples.specs.inner.CountsRise.{last_word-push, rises_push, with_last}
use Rattle.mod_samples.proofs.CountsRead.{holds_ok, step}
use Rattle.mod_samples.proofs.count_reading.counts_in.Goals as goal

pub loop-preserved : goal.loop-preserved
loop-preserved c =
    let last = option_copied c.loop.last in let taking = c.loop.taking in let counts = c.loop.counts in
    let d : Counted = counted c.in_ok-word.word.now c.in_ok-word.n in
    let left : ℕ = c.in-Ok.count - c.loop.counter in
    let some : 0 < left = omega arith in
    let first : first_counted last (length taking.taken) taking.left ≡ Ok d = c.in_ok-word.ensures.0 in
    let fits : Fits last d = first_fits last (length taking.taken) taking.left d first in
    let rises : counts_rise None (counts ++ d ∷ []) ≡ true =
    rises_push None counts d c.loop.invariant.rising (subst (λ l. is_behind l d.word ≡ true) c.loop.invariant.last fits.above) fits.count in
    let made : c.set.new.self ≡ counts ++ d ∷ [] =
    holds_ok c.set.result _ c.if-is_err.ensures.negation c.set.ensures.ok ∙ with_last None d.word d.count counts rises in
    let less : left - 1 ≡ c.in-Ok.count - (c.loop.counter + 1) = omega arith in
    record {
      rising = c.set.ensures.counts;
      last = sym (ap (last_word None) made ∙ last_word-push None counts d);
      read = rw (made, c.in_ok-word.ensures.1, c.in_ok-word.ensures.2, ← less) (c.loop.invariant.read
          ∙ step last left (length taking.taken) counts taking.left d some first);
    }
