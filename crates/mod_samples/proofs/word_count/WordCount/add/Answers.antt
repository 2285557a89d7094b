-- Serves clause runs of WordCount::add, and what it owes to set.
use Rattle.std.proofs.Common.{◌≡◌, ◌+◌, ◌<◌, ◌^◌, ℕ, pos, true, refl, sym, ap, ◌∙◌, subst, arith}
use Rattle.std.specs.Prelude.{nat_lt}
use Rattle.std.specs.Option.{unwrap_or}
use Rattle.std.specs.Int.{w64}
use Rattle.std.proofs.lemmas.Int.{to_z_pos}
use Rattle.std.proofs.lemmas.Bool.Decides.{nat_tests}
use Rattle.sequences.specs.Words.{word}
use Rattle.core_types.specs.declared.reply.Reply.TheVariants as reply
use Rattle.core_types.specs.Limits.{IsWithinLimits}
use Rattle.module_laws.specs.Meaning.{type_of}
use Rattle.module_laws.specs.Runs.{Runs, scene}
use Rattle.module_laws.specs.Plain.{plain_state}
use Rattle.mod_samples.specs.Counts.{count_at}
use Rattle.mod_samples.specs.WordCount.{counts_at, set_words, sets, wordcount, words_at}
use Rattle.mod_samples.specs.inner.CountLaws.{set_limits, word_short}
use Rattle.mod_samples.proofs.CountRuns.{HasWord, has_word}
use Rattle.mod_samples.proofs.word_count.WordCount.add.Goals as goal

pub set-requires-clause-small : goal.set-requires-clause-small
set-requires-clause-small g c =
    let words = c.args.words.now in
    subst IsWithinLimits (sym c.in_ok-effect.ensures)
    (set_limits c.word_at-key.result.now c.word_at-word.result.now (c.unwrap_or-n.result + 1)
    (rw c.word_at-key.ensures (word_short 1 words c.requires.limits.each)) (rw c.word_at-word.ensures (word_short 2 words c.requires.limits.each)) (omega arith))

pub set-requires-clause-ours : goal.set-requires-clause-ours
unfolding word
set-requires-clause-ours g c =
    let keys = (g.C.Context.told c.args.ctx.now).seen.keys in let key = c.word_at-key.result.now in
    let has : HasWord c.word_at-word.result.now (counts_at keys key) c.in-Some.count =
    has_word c.word_at-word.result.now (counts_at keys key) c.in-Some.count (sym c.count_in.ensures.count ∙ c.in-Some.is) in
    rw c.in_ok-effect.ensures (rw has.there refl)

pub returns-clause-runs : goal.returns-clause-runs
unfolding word
returns-clause-runs g c =
    let old = g.C.Context.told c.args.ctx.now in let keys = old.seen.keys in let words = c.args.words.now in
    let n : ℕ = c.unwrap_or-n.result + 1 in let cs = words_at keys (word 1 words) in
    let key : c.word_at-key.result.now ≡ word 1 words = c.word_at-key.ensures in
    let wd : c.word_at-word.result.now ≡ word 2 words = c.word_at-word.ensures in
    let has : HasWord (word 2 words) (counts_at keys (word 1 words)) c.in-Some.count =
    has_word (word 2 words) (counts_at keys (word 1 words)) c.in-Some.count (rw (← key, ← wd) (sym c.count_in.ensures.count ∙ c.in-Some.is)) in
    let small : n < 2 ^ 63 = omega arith in
    let few : nat_lt n (2 ^ 63) ≡ true = grind (arith, nat_tests) in
    let is : n ≡ unwrap_or (count_at (word 2 words) cs) 0 + 1 = ap (λ k. k + 1) (c.unwrap_or-n.ensures ∙ ap (λ o. unwrap_or o 0) (sym has.found)) in
    rw has.there (rw (← is) (rw few (subst (λ d. Runs (type_of wordcount) d c.set.result
    (scene (plain_state c.args.self.now.tally.made c.args.self.now.tally.freed) old)
    (scene (plain_state c.set.new.self.tally.made c.set.new.self.tally.freed) (g.C.Context.told c.set.new.ctx)))
    (ap (λ z. sets old.seen c.in_ok-effect.effect.words n (words_at keys (word 1 c.in_ok-effect.effect.words)) (reply.Int z)) (to_z_pos w64 n small)
    ∙ ap (λ e. sets old.seen e n (words_at keys (word 1 e)) (reply.Int (pos n))) c.in_ok-effect.ensures
    ∙ ap (λ k. sets old.seen (set_words k c.word_at-word.result.now n) n (words_at keys k) (reply.Int (pos n))) key
    ∙ ap (λ w. sets old.seen (set_words (word 1 words) w n) n cs (reply.Int (pos n))) wd) c.set.ensures.runs)))
