-- Serves clause runs of WordCount::drop_word.
use Rattle.std.proofs.Common.{◌≡◌, pos, Some, Ok, refl, sym, ap, ◌∙◌}
use Rattle.std.specs.Prelude.{⊤, not}
use Rattle.std.specs.Option.{is_none, option_map}
use Rattle.sequences.specs.Words.{word}
use Rattle.core_types.specs.declared.reply.Reply.TheVariants as reply
use Rattle.module_laws.specs.Meaning.{Did, type_of}
use Rattle.module_laws.specs.Runs.{Runs, scene}
use Rattle.module_laws.specs.Told.{with_effect}
use Rattle.module_laws.specs.Plain.{answers_only, plain_state}
use Rattle.mod_samples.specs.Changes.{Change, leaves, with_notes}
use Rattle.mod_samples.specs.Counts.{without_word}
use Rattle.mod_samples.specs.WordCount.{count_name, counts_at, drop_notes, dropped, value_of, wordcount, words_at}
use Rattle.mod_samples.proofs.CountRuns.{HasWord, has_word, out_full, some_count}
use Rattle.mod_samples.proofs.Running.{answers, key_short, stops, stores, tells_all}
use Rattle.mod_samples.proofs.word_count.WordCount.drop_word.Goals as goal

pub returns-in_err-tell_drop-clause-runs : goal.returns-in_err-tell_drop-clause-runs
returns-in_err-tell_drop-clause-runs g c =
    let old = g.C.Context.told c.args.ctx.now in let told = g.C.Context.told c.take_out.new.ctx in let new = g.C.Context.told c.tell_drop.new.ctx in
    let key = c.word_at-key.result.now in let wd = c.word_at-word.result.now in
    stops _ _ _ _ c.from_residual-in_err-tell_drop.result _ _ told new
    (stores wordcount refl key (value_of (without_word wd (words_at old.seen.keys key))) old told c.args.self.now.tally.made c.args.self.now.tally.freed
    (rw c.word_at-key.ensures (key_short c.args.own.words c.requires.small)) (λ allowed sound. out_full allowed old.seen sound key wd) c.in_ok-gone.ensures.ok)
    c.tell_drop.ensures.seen c.tell_drop.ensures.added c.from_residual-in_err-tell_drop.ensures.1

pub returns-in_err-add_effect-clause-runs : goal.returns-in_err-add_effect-clause-runs
returns-in_err-add_effect-clause-runs g c =
    let old = g.C.Context.told c.args.ctx.now in let told = g.C.Context.told c.take_out.new.ctx in let new = g.C.Context.told c.add_effect.new.ctx in
    let key = c.word_at-key.result.now in let wd = c.word_at-word.result.now in
    stops _ _ _ _ c.from_residual-in_err-add_effect.result _ _ told new
    (stores wordcount refl key (value_of (without_word wd (words_at old.seen.keys key))) old told c.args.self.now.tally.made c.args.self.now.tally.freed
    (rw c.word_at-key.ensures (key_short c.args.own.words c.requires.small)) (λ allowed sound. out_full allowed old.seen sound key wd) c.in_ok-gone.ensures.ok)
    (ap (λ t. t.seen) c.in_err-add_effect.ensures.err ∙ c.tell_drop.ensures.seen) (ap (λ t. t.added) c.in_err-add_effect.ensures.err ∙ c.tell_drop.ensures.added)
    c.from_residual-in_err-add_effect.ensures.1

pub returns-clause-runs : goal.returns-clause-runs
returns-clause-runs g c =
    let old = g.C.Context.told c.args.ctx.now in let told = g.C.Context.told c.take_out.new.ctx in let new = g.C.Context.told c.add_effect.new.ctx in
    let words = c.args.own.words in let keys = old.seen.keys in
    let key : c.word_at-key.result.now ≡ word 1 words = c.word_at-key.ensures in
    let wd : c.word_at-word.result.now ≡ word 2 words = c.word_at-word.ensures in
    let cs = words_at keys (word 1 words) in let left = without_word (word 2 words) cs in
    let has : HasWord (word 2 words) (counts_at keys (word 1 words)) c.in-Some.count =
    has_word (word 2 words) (counts_at keys (word 1 words)) c.in-Some.count (rw (← key, ← wd) (sym c.count_in.ensures.count ∙ c.in-Some.is)) in
    let drops : dropped (word 2 words) cs ≡ Some left =
    ap (option_map (λ n. left)) (has.found ∙ some_count c.in-Some.count (c.is_none.ensures ∙ ap not c.if-is_none.false)) in
    let change : Change = record { made = value_of left; effect = words; notes = drop_notes (word 1 words) (is_none (value_of left)) } in
    let m = c.args.self.now.tally.made in let f = c.args.self.now.tally.freed in
    let runs : Runs (type_of wordcount) (leaves count_name old.seen (word 1 words) (value_of left)) (Ok tt) (scene (plain_state m f) old) (scene (plain_state m f) told) =
    stores wordcount refl (word 1 words) (value_of left) old told m f (key_short words c.requires.small)
    (λ allowed sound. out_full allowed old.seen sound (word 1 words) (word 2 words)) (rw (key, wd) at c.in_ok-gone.ensures.ok) in
    let gone : c.in_ok-gone.gone ≡ is_none (value_of left) = rw (key, wd) at c.in_ok-gone.ensures.gone in
    rw has.there (rw drops (tells_all (type_of wordcount) count_name change (reply.Int (pos 1)) _ old told new (plain_state m f) (plain_state m f) refl runs
    (c.in_ok-add_effect.ensures.ok ∙ ap (with_effect (record { words = words })) (c.in_ok-tell_drop.ensures.ok
    ∙ ap (λ k. with_notes (drop_notes k c.in_ok-gone.gone) told) key ∙ ap (λ b. with_notes (drop_notes (word 1 words) b) told) gone))))

pub returns-in_err-gone-clause-runs : goal.returns-in_err-gone-clause-runs
returns-in_err-gone-clause-runs g c =
    let old = g.C.Context.told c.args.ctx.now in let new = g.C.Context.told c.take_out.new.ctx in
    let m = c.args.self.now.tally.made in let f = c.args.self.now.tally.freed in
    let same : new ≡ old = c.in_err-gone.ensures.err in
    let first : Did ⊤ = answers_only tt old.seen in
    let runs : Runs (type_of wordcount) first (Ok tt) (scene (plain_state m f) old) (scene (plain_state m f) old) =
    answers (type_of wordcount) first tt tt old m f refl refl in
    stops _ _ _ _ c.from_residual-in_err-gone.result _ _ old new runs (ap (λ t. t.seen) same) (ap (λ t. t.added) same)
    c.from_residual-in_err-gone.ensures.1
