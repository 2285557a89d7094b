-- Serves the clauses of Counts::remove, and keeps the words in byte order.
use Rattle.std.proofs.Common.{◌≡◌, None, true, map, sym, ap, ◌∙◌, subst}
use Rattle.mod_samples.specs.Counts.{are_counts, without_word}
use Rattle.mod_samples.specs.inner.CountsRise.{without_rises}
use Rattle.mod_samples.proofs.CountTree.{read, removed}
use Rattle.mod_samples.proofs.counts.Counts.remove.Goals as goal

left : (c : goal.After-remove) → map (read (λ k. k.items)) c.remove.new.self.entries
    ≡ without_word c.args.word.now (map (read (λ k. k.items)) c.self.inside.words.entries)
left c = ap (map (read (λ k. k.items))) c.remove.ensures.entries ∙ removed (λ k. k.items) c.self.inside.words.entries c.args.word.now

ordered : (c : goal.After-remove) → are_counts (map (read (λ k. k.items)) c.remove.new.self.entries) ≡ true
ordered c = subst (λ cs. are_counts cs ≡ true) (sym (left c)) (without_rises None c.args.word.now _ c.self.invariant)

pub returns-clause-removed : goal.returns-clause-removed
returns-clause-removed c = left c ∙ ap (without_word c.args.word.now) c.self.view_is

pub returns-clause-counts : goal.returns-clause-counts
returns-clause-counts c = ordered c

pub invariant_of-self : goal.invariant_of-self
invariant_of-self c = ordered c
