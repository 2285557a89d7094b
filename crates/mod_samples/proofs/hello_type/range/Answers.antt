-- Serves the clause of range.
use Rattle.std.proofs.Common.{◌≡◌, Some, sym, ap, ◌∙◌}
use Rattle.byte_text.specs.Number.{i64_of}
use Rattle.sequences.specs.Words.{word}
use Rattle.module_laws.specs.declared.verdict.Verdict.TheVariants as verdict
use Rattle.mod_samples.specs.HelloType.{natural, number_array, numbers_at}
use Rattle.mod_samples.proofs.HelloRuns.{numbers_found}
use Rattle.mod_samples.proofs.hello_type.range.Goals as goal

pub returns-in_ok-number_array-in-Ok : goal.returns-in_ok-number_array-in-Ok
returns-in_ok-number_array-in-Ok g c =
    let keys = (g.C.Context.told c.args.ctx.now).seen.keys in let words = c.args.words.now in let list = c.in-Ok.list.now in
    let first : natural (i64_of (word 2 words)) ≡ Some c.in-Some.first = ap (λ t. natural (i64_of t)) (sym c.word_at.ensures) ∙ sym c.natural.ensures ∙ c.in-Some.is in
    let count : natural (i64_of (word 3 words)) ≡ Some c.in-Some-natural.count = ap (λ t. natural (i64_of t)) (sym c.word_at-2.ensures) ∙ sym c.natural-2.ensures ∙ c.in-Some-natural.is in
    let there : numbers_at keys (word 1 words) ≡ Some list.numbers = ap (numbers_at keys) (sym c.word_at-3.ensures) ∙ numbers_found keys c.word_at-3.result.now list.numbers list.rising c.in-Ok.ensures.value in
    rw (first, count, there) (ap verdict.Say (c.in_ok-number_array-in-Ok.ensures ∙ ap number_array c.range.ensures))
