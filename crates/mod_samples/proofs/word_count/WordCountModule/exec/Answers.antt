-- Serves clause runs of WordCount::exec, and what it owes to put_count and drop_word.
use Rattle.std.proofs.Common.{◌≡◌, false, sym, ap, ◌∙◌, subst}
use Rattle.std.specs.Str.{bytes_eq}
use Rattle.sequences.specs.Words.{word}
use Rattle.core_types.specs.Limits.{IsWithinLimits}
use Rattle.mod_samples.specs.WordCount.{add_name, counts_at, drop_name, gets, set_name}
use Rattle.mod_samples.specs.Words.{own}
use Rattle.mod_samples.proofs.CountRuns.{gets_only}
use Rattle.mod_samples.proofs.OwnWords.{own_limits}
use Rattle.mod_samples.proofs.Running.{answers}
use Rattle.mod_samples.proofs.word_count.WordCountModule.exec.Goals as goal

pub put_count-requires : goal.put_count-requires
put_count-requires g c = record { small = subst IsWithinLimits (sym c.in_ok-own.ensures) (own_limits c.args.words.now c.requires.limits) }

pub drop_word-requires : goal.drop_word-requires
drop_word-requires g c = record { small = subst IsWithinLimits (sym c.in_ok-own.ensures) (own_limits c.args.words.now c.requires.limits) }

pub returns-in_ok-get-clause-runs : goal.returns-in_ok-get-clause-runs
returns-in_ok-get-clause-runs g c =
    let told = g.C.Context.told c.args.ctx.now in let words = own c.args.words.now in let keys = told.seen.keys in
    let name : c.word_at-name.result.now ≡ word 0 words = c.word_at-name.ensures ∙ ap (word 0) c.in_ok-own.ensures in
    let add : bytes_eq (word 0 words) add_name ≡ false =
    ap (λ n. bytes_eq n add_name) (sym name) ∙ ap (bytes_eq c.word_at-name.result.now) (sym c.as_slice.ensures) ∙ sym c.eq.ensures ∙ c.if-eq.false in
    let set : bytes_eq (word 0 words) set_name ≡ false =
    ap (λ n. bytes_eq n set_name) (sym name) ∙ ap (bytes_eq c.word_at-name.result.now) (sym c.as_slice-else-eq.ensures) ∙ sym c.eq-else-eq.ensures ∙ c.if-eq-2.false in
    let drop : bytes_eq (word 0 words) drop_name ≡ false =
    ap (λ n. bytes_eq n drop_name) (sym name) ∙ ap (bytes_eq c.word_at-name.result.now) (sym c.as_slice-else-eq-2.ensures) ∙ sym c.eq-else-eq-2.ensures ∙ c.if-eq-3.false in
    rw (add, set, drop) (answers _ _ c.in_ok-get.field-0 _ told c.args.self.now.tally.made c.args.self.now.tally.freed
    (gets_only told.seen (word 2 words) (counts_at keys (word 1 words)))
    (c.in_ok-get.ensures ∙ ap (λ w. (gets told.seen (word 2 w) (counts_at keys (word 1 w))).answer) c.in_ok-own.ensures))
