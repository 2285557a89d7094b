-- Serves clause runs of WordCount::set, and what it owes to store.
use Rattle.std.proofs.Common.{◌≡◌, [], ◌∷◌, refl, ap, ◌∙◌}
use Rattle.std.specs.Prelude.{codes}
use Rattle.sequences.specs.Words.{word}
use Rattle.module_laws.specs.Meaning.{type_of}
use Rattle.module_laws.specs.Told.{with_effect}
use Rattle.module_laws.specs.Plain.{plain_state}
use Rattle.mod_samples.specs.Changes.{Change, module_note}
use Rattle.mod_samples.specs.Counts.{with_count}
use Rattle.mod_samples.specs.WordCount.{count_name, value_of, wordcount, words_at}
use Rattle.mod_samples.specs.inner.CountLaws.{word_short}
use Rattle.mod_samples.proofs.Running.{key_short, stops, tells}
use Rattle.mod_samples.proofs.word_count.WordCount.set.Goals as goal

pub store-requires-clause-string : goal.store-requires-clause-string
store-requires-clause-string g c = rw c.word_at-key.ensures (key_short c.args.effect.words c.requires.small)

pub store-requires-clause-word : goal.store-requires-clause-word
store-requires-clause-word g c = rw c.word_at.ensures (word_short 2 c.args.effect.words c.requires.small.each)

pub returns-in_err-notify-clause-runs : goal.returns-in_err-notify-clause-runs
returns-in_err-notify-clause-runs g c =
    let told = g.C.Context.told c.store.new.ctx in let new = g.C.Context.told c.notify.new.self in
    stops _ _ _ _ c.from_residual-in_err-notify.result _ _ told new c.in_ok-store.ensures.runs
    (ap (λ t. t.seen) c.in_err-notify.ensures.err) (ap (λ t. t.added) c.in_err-notify.ensures.err)
    c.from_residual-in_err-notify.ensures.1

pub returns-in_err-add_effect-clause-runs : goal.returns-in_err-add_effect-clause-runs
returns-in_err-add_effect-clause-runs g c =
    let told = g.C.Context.told c.store.new.ctx in let new = g.C.Context.told c.add_effect.new.ctx in
    stops _ _ _ _ c.from_residual-in_err-add_effect.result _ _ told new c.in_ok-store.ensures.runs
    (ap (λ t. t.seen) (c.in_err-add_effect.ensures.err ∙ c.in_ok-notify.ensures.ok)) (ap (λ t. t.added) (c.in_err-add_effect.ensures.err ∙ c.in_ok-notify.ensures.ok))
    c.from_residual-in_err-add_effect.ensures.1

pub returns-clause-runs : goal.returns-clause-runs
returns-clause-runs g c =
    let old = g.C.Context.told c.args.ctx.now in let told = g.C.Context.told c.store.new.ctx in let new = g.C.Context.told c.add_effect.new.ctx in
    let words = c.args.effect.words in let cs = words_at old.seen.keys (word 1 words) in
    let key : c.word_at-key.result.now ≡ word 1 words = c.word_at-key.ensures in
    let wd : c.word_at.result.now ≡ word 2 words = c.word_at.ensures in
    let change : Change = record { made = value_of (with_count (word 2 words) c.args.n cs); effect = words; notes = module_note (codes "wordcount.set") (word 1 words) ∷ [] } in
    tells (type_of wordcount) count_name change (module_note (codes "wordcount.set") (word 1 words)) c.args.said _ old told new
    (plain_state c.args.self.now.tally.made c.args.self.now.tally.freed) (plain_state c.store.new.self.tally.made c.store.new.self.tally.freed) refl refl
    (rw (key, wd) at c.in_ok-store.ensures.runs)
    (c.in_ok-add_effect.ensures.ok ∙ ap (with_effect (record { words = words })) (rw key at c.in_ok-notify.ensures.ok))
