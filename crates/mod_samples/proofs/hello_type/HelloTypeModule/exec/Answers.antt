-- Serves clause runs of HelloType::exec.
use Rattle.std.proofs.Common.{◌≡◌, true, false, sym, ap, ◌∙◌}
use Rattle.std.specs.Str.{bytes_eq}
use Rattle.byte_text.specs.Number.{i64_of}
use Rattle.sequences.specs.Words.{word}
use Rattle.mod_samples.specs.HelloType.{insert_name, lengths, natural, numbers_at, range_name, ranges}
use Rattle.mod_samples.specs.Words.{own}
use Rattle.mod_samples.proofs.HelloRuns.{lengths_only, ranges_only}
use Rattle.mod_samples.proofs.Running.{answers}
use Rattle.mod_samples.proofs.hello_type.HelloTypeModule.exec.Goals as goal

pub returns-then-eq-2-clause-runs : goal.returns-then-eq-2-clause-runs
returns-then-eq-2-clause-runs g c =
    let told = g.C.Context.told c.args.ctx.now in let words = own c.args.words.now in let keys = told.seen.keys in
    let name : c.word_at-name.result.now ≡ word 0 words = c.word_at-name.ensures ∙ ap (word 0) c.in_ok-own.ensures in
    let insert : bytes_eq (word 0 words) insert_name ≡ false =
    ap (λ n. bytes_eq n insert_name) (sym name) ∙ ap (bytes_eq c.word_at-name.result.now) (sym c.as_slice.ensures) ∙ sym c.eq.ensures ∙ c.if-eq.false in
    let range : bytes_eq (word 0 words) range_name ≡ true =
    ap (λ n. bytes_eq n range_name) (sym name) ∙ ap (bytes_eq c.word_at-name.result.now) (sym c.as_slice-else-eq.ensures) ∙ sym c.eq-else-eq.ensures ∙ c.if-eq-2.true in
    rw (insert, range) (answers _ _ c.in_ok-range.field-0 _ told c.args.self.now.tally.made c.args.self.now.tally.freed
    (ranges_only told.seen (natural (i64_of (word 2 words))) (natural (i64_of (word 3 words))) (numbers_at keys (word 1 words)))
    (c.in_ok-range.ensures ∙ ap (λ w. (ranges told.seen (natural (i64_of (word 2 w))) (natural (i64_of (word 3 w))) (numbers_at keys (word 1 w))).answer) c.in_ok-own.ensures))

pub returns-clause-runs : goal.returns-clause-runs
returns-clause-runs g c =
    let told = g.C.Context.told c.args.ctx.now in let words = own c.args.words.now in let keys = told.seen.keys in
    let name : c.word_at-name.result.now ≡ word 0 words = c.word_at-name.ensures ∙ ap (word 0) c.in_ok-own.ensures in
    let insert : bytes_eq (word 0 words) insert_name ≡ false =
    ap (λ n. bytes_eq n insert_name) (sym name) ∙ ap (bytes_eq c.word_at-name.result.now) (sym c.as_slice.ensures) ∙ sym c.eq.ensures ∙ c.if-eq.false in
    let range : bytes_eq (word 0 words) range_name ≡ false =
    ap (λ n. bytes_eq n range_name) (sym name) ∙ ap (bytes_eq c.word_at-name.result.now) (sym c.as_slice-else-eq.ensures) ∙ sym c.eq-else-eq.ensures ∙ c.if-eq-2.false in
    rw (insert, range) (answers _ _ c.in_ok-length.field-0 _ told c.args.self.now.tally.made c.args.self.now.tally.freed
    (lengths_only told.seen (numbers_at keys (word 1 words)))
    (c.in_ok-length.ensures ∙ ap (λ k. (lengths told.seen (numbers_at keys k)).answer) (c.word_at.ensures ∙ ap (word 1) c.in_ok-own.ensures)))
