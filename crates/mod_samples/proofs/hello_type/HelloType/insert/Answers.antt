-- Serves clause runs of HelloType::insert, and what it owes to store.
use Rattle.std.proofs.Common.{◌≡◌, ◌-◌, ◌^◌, min, pos, [], ◌∷◌, length, Some, refl, sym, ap, ◌∙◌, arith, rules}
use Rattle.std.specs.Prelude.{codes}
use Rattle.std.specs.Int.{w64}
use Rattle.std.specs.Option.{option_map}
use Rattle.std.proofs.lemmas.Int.{to_z-of_z}
use mir.Val.{SFits}
use Rattle.byte_text.specs.Number.{i64_of}
use Rattle.core_types.specs.declared.reply.Reply.TheVariants as reply
use Rattle.module_laws.specs.Meaning.{type_of}
use Rattle.module_laws.specs.Told.{with_effect}
use Rattle.module_laws.specs.declared.verdict.Verdict.TheVariants as verdict
use Rattle.module_laws.specs.Plain.{plain_state}
use Rattle.mod_samples.specs.Changes.{Change, count_reply, module_note}
use Rattle.mod_samples.specs.HelloNumbers.{saved_numbers}
use Rattle.mod_samples.specs.HelloType.{hello_name, hellotype, list_at, numbers_at}
use Rattle.mod_samples.specs.Rising.{inserted}
use Rattle.mod_samples.proofs.HelloRuns.{HasLength, has_length, length-inserted}
use Rattle.sequences.specs.Words.{word}
use Rattle.mod_samples.proofs.Running.{key_short, stops, tells}
use Rattle.mod_samples.proofs.hello_type.HelloType.insert.Goals as goal

pub store-requires-clause-string : goal.store-requires-clause-string
store-requires-clause-string g c = rw c.word_at-key.ensures (key_short c.args.own.words c.requires.small)

pub returns-in_err-notify-clause-runs : goal.returns-in_err-notify-clause-runs
returns-in_err-notify-clause-runs g c =
    let told = g.C.Context.told c.store.new.ctx in let new = g.C.Context.told c.notify.new.self in
    stops _ _ _ _ c.from_residual-in_err-notify.result _ _ told new c.in_ok-store.ensures.runs
    (ap (λ t. t.seen) c.in_err-notify.ensures.err) (ap (λ t. t.added) c.in_err-notify.ensures.err)
    c.from_residual-in_err-notify.ensures.1

pub returns-in_err-add_effect-clause-runs : goal.returns-in_err-add_effect-clause-runs
returns-in_err-add_effect-clause-runs g c =
    let told = g.C.Context.told c.store.new.ctx in let new = g.C.Context.told c.add_effect.new.ctx in
    stops _ _ _ _ c.from_residual-in_err-add_effect.result _ _ told new c.in_ok-store.ensures.runs
    (ap (λ t. t.seen) (c.in_err-add_effect.ensures.err ∙ c.in_ok-notify.ensures.ok)) (ap (λ t. t.added) (c.in_err-add_effect.ensures.err ∙ c.in_ok-notify.ensures.ok))
    c.from_residual-in_err-add_effect.ensures.1

pub returns-clause-runs : goal.returns-clause-runs
returns-clause-runs g c =
    let old = g.C.Context.told c.args.ctx.now in let told = g.C.Context.told c.store.new.ctx in let new = g.C.Context.told c.add_effect.new.ctx in
    let words = c.args.own.words in let n = c.in-Some.n in let ns = list_at old.seen.keys (word 1 words) in
    let key : c.word_at-key.result.now ≡ word 1 words = c.word_at-key.ensures in
    let read : i64_of (word 2 words) ≡ Some n = ap i64_of (sym c.word_at.ensures) ∙ sym c.read_i64.ensures.value ∙ c.in-Some.is in
    let found : HasLength (numbers_at old.seen.keys (word 1 words)) c.in-Some-length_at.length =
    has_length _ _ (ap (λ k. option_map length (numbers_at old.seen.keys k)) (sym key) ∙ sym c.length_at.ensures ∙ c.in-Some-length_at.is) in
    let fits : SFits w64 n = search rules in
    let change : Change = record { made = Some (saved_numbers (inserted n ns)); effect = words; notes = module_note (codes "hellotype.insert") (word 1 words) ∷ [] } in
    let same : min c.saturating_add.result (2 ^ 63 - 1) ≡ min (length (inserted n ns)) (2 ^ 63 - 1) =
    omega (arith, c.saturating_add.ensures, length-inserted n ns, found.long) in
    let before = plain_state c.args.self.now.tally.made c.args.self.now.tally.freed in
    let after = plain_state c.store.new.self.tally.made c.store.new.self.tally.freed in
    rw (read, found.there) (tells (type_of hellotype) hello_name change (module_note (codes "hellotype.insert") (word 1 words)) (count_reply (length (inserted n ns)))
    c.count.result old told new before after refl
    (c.count.ensures ∙ ap (λ k. verdict.Say (reply.Int (pos k))) same)
    (rw (key, to_z-of_z w64 n fits) at c.in_ok-store.ensures.runs)
    (c.in_ok-add_effect.ensures.ok ∙ ap (with_effect (record { words = words })) (rw key at c.in_ok-notify.ensures.ok)))
