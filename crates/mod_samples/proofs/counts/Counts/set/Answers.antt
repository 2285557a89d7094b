-- Serves the clauses of Counts::set, and keeps the words in byte order.
use Rattle.std.proofs.Common.{◌≡◌, None, true, map, refl, sym, ap, ◌∙◌, subst}
use Rattle.mod_samples.specs.Counts.{are_counts, with_count}
use Rattle.mod_samples.specs.inner.CountsRise.{with_rises}
use Rattle.mod_samples.proofs.CountTree.{inserted, read}
use Rattle.mod_samples.proofs.counts.Counts.set.Goals as goal

left : (c : goal.In_ok-insert) → map (read (λ k. k.items)) c.insert.new.self.entries
    ≡ with_count c.args.word.now c.args.n (map (read (λ k. k.items)) c.self.inside.words.entries)
left c =
    ap (map (read (λ k. k.items))) c.in_ok-insert.ensures.entries ∙ inserted (λ k. k.items) c.self.inside.words.entries c.in_ok-word.word c.args.n
    ∙ ap (λ word. with_count word c.args.n (map (read (λ k. k.items)) c.self.inside.words.entries)) c.in_ok-word.ensures.items

ordered : (c : goal.In_ok-insert) → are_counts (map (read (λ k. k.items)) c.insert.new.self.entries) ≡ true
ordered c = subst (λ cs. are_counts cs ≡ true) (sym (left c)) (with_rises None c.args.word.now c.args.n _ c.self.invariant refl c.requires)

pub invariant_of-self-2 : goal.invariant_of-self-2
invariant_of-self-2 c = ordered c

pub returns-clause-ok : goal.returns-clause-ok
returns-clause-ok c = left c ∙ ap (with_count c.args.word.now c.args.n) c.self.view_is

pub returns-clause-counts : goal.returns-clause-counts
returns-clause-counts c = ordered c
