-- Serves the clauses of Counts::get.
use Rattle.std.proofs.Common.{◌≡◌, ℕ, None, Some, Option, List, true, ◌<◌, ◌^◌, sym, ap, ◌∙◌}
use Rattle.std.specs.Option.{IfSome}
use Rattle.mod_samples.specs.Counts.{Counted, are_counts, count_at}
use Rattle.mod_samples.specs.inner.CountsRise.{count_small, count_there}
use Rattle.mod_samples.proofs.CountTree.{found}
use Rattle.mod_samples.proofs.counts.Counts.get.Goals as goal

small_case : (word : List ℕ) (cs : List Counted) (found : Option ℕ) → are_counts cs ≡ true
    → found ≡ count_at word cs → IfSome found (λ n. n < 2 ^ 63)
small_case word cs None rising is = tt
small_case word cs (Some n) rising is = (count_small n (count_there None word n cs rising (sym is))).1

pub returns-clause-count : goal.returns-clause-count
returns-clause-count c =
    c.copied.ensures ∙ c.get.ensures.value ∙ found (λ k. k.items) c.self.inside.words.entries c.args.word.now
    ∙ ap (count_at c.args.word.now) c.self.view_is

pub returns-clause-small : goal.returns-clause-small
returns-clause-small c =
    small_case c.args.word.now _ c.copied.result c.self.invariant
    (c.copied.ensures ∙ c.get.ensures.value ∙ found (λ k. k.items) c.self.inside.words.entries c.args.word.now)
