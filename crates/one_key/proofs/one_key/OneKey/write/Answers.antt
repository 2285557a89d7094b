-- Serves clause runs of OneKey::write, and what it owes to place and tell.
use Rattle.std.proofs.Common.{None, refl, sym, ap, subst}
use Rattle.core_types.specs.Keys.{value_at}
use Rattle.sequences.specs.Words.{word}
use Rattle.module_laws.specs.Replay.{own_value}
use Rattle.module_laws.specs.declared.verdict.Verdict.TheVariants as verdict
use Rattle.one_key.specs.inner.Steps.{WroteAt}
use Rattle.one_key.proofs.OwnWords.{key_short}
use Rattle.one_key.proofs.Writes.{IsRun, all_done, answered, is_change_at, is_other, is_run, may_place, place_stopped, same_run, small_effect, stopped, tell_stopped}
use Rattle.one_key.proofs.one_key.OneKey.write.Goals as goal

pub returns-in_err-wrote-clause-runs : goal.returns-in_err-wrote-clause-runs
returns-in_err-wrote-clause-runs g c =
    stopped _ _ c.from_residual.result _ _ _ _ c.in_err-wrote.ensures.err c.from_residual.ensures.1

pub returns-in_err-other-clause-runs : goal.returns-in_err-other-clause-runs
returns-in_err-other-clause-runs g c =
    let m = g.T.KeyType.meaning in let words = c.args.own.words in
    let old = g.C.Context.told c.args.ctx.now in let mid = g.C.Context.told c.write_at.new.ctx in
    let other = is_other m g.T.KeyType.saved words old mid
    (subst (λ w. WroteAt m g.T.KeyType.saved (word 1 words) words w (own_value m.name (value_at old.seen.keys (word 1 words))) old mid)
    c.in_default.is c.in_ok-wrote.ensures.wrote) in
    stopped _ _ c.from_residual-in_err-other.result _ _ _ _ other.same c.from_residual-in_err-other.ensures.1

pub returns-in_default-clause-runs : goal.returns-in_default-clause-runs
returns-in_default-clause-runs g c =
    let m = g.T.KeyType.meaning in let words = c.args.own.words in
    let old = g.C.Context.told c.args.ctx.now in let mid = g.C.Context.told c.write_at.new.ctx in
    let other = is_other m g.T.KeyType.saved words old mid
    (subst (λ w. WroteAt m g.T.KeyType.saved (word 1 words) words w (own_value m.name (value_at old.seen.keys (word 1 words))) old mid)
    c.in_default.is c.in_ok-wrote.ensures.wrote) in
    answered _ _ _ _ _ _ _ _ other.same other.did (ap verdict.Say c.in_ok-other.ensures.reply)

pub returns-in_default-change-clause-runs : goal.returns-in_default-change-clause-runs
returns-in_default-change-clause-runs g c =
    let m = g.T.KeyType.meaning in let saved = g.T.KeyType.saved in let words = c.args.own.words in
    let old = g.C.Context.told c.args.ctx.now in let mid = g.C.Context.told c.write_at.new.ctx in
    let run = is_run m saved words old mid c.requires.writes c.in-Some.wrote
    (subst (λ w. WroteAt m saved (word 1 words) words w (own_value m.name (value_at old.seen.keys (word 1 words))) old mid)
    c.in-Some.is c.in_ok-wrote.ensures.wrote) in
    let none : IsRun m saved words old mid c.in-Some.wrote.reply None =
    subst (IsRun m saved words old mid c.in-Some.wrote.reply) c.in_default-change.is run in
    let same = same_run m saved words old mid c.in-Some.wrote.reply none in
    answered _ _ _ _ _ _ _ _ same.1 same.0 refl

pub place-requires-clause-string : goal.place-requires-clause-string
place-requires-clause-string g c = rw c.word.ensures.word (key_short c.args.own.words c.requires.small)

pub place-requires-clause-full : goal.place-requires-clause-full
place-requires-clause-full g c =
    let m = g.T.KeyType.meaning in let saved = g.T.KeyType.saved in let words = c.args.own.words in
    let old = g.C.Context.told c.args.ctx.now in let mid = g.C.Context.told c.write_at.new.ctx in
    let ran = is_change_at m saved words old mid c.requires.writes c.in_ok-wrote.field-0 c.in-Some.wrote
    c.in-Some-change.change c.in-Some.is c.in-Some-change.is c.in_ok-wrote.ensures.wrote in
    may_place m g.met.T.KeyType.lawful saved words c.requires.writes c.requires.small old mid
    c.in-Some.wrote.reply c.in-Some-change.change ran

pub returns-in_err-place-clause-runs : goal.returns-in_err-place-clause-runs
returns-in_err-place-clause-runs g c =
    let m = g.T.KeyType.meaning in let saved = g.T.KeyType.saved in let words = c.args.own.words in
    let old = g.C.Context.told c.args.ctx.now in let mid = g.C.Context.told c.write_at.new.ctx in
    let ran = is_change_at m saved words old mid c.requires.writes c.in_ok-wrote.field-0 c.in-Some.wrote
    c.in-Some-change.change c.in-Some.is c.in-Some-change.is c.in_ok-wrote.ensures.wrote in
    place_stopped m g.met.T.KeyType.lawful saved words c.requires.writes c.requires.small old mid
    c.in-Some.wrote.reply c.in-Some-change.change ran c.in_err-place.field-0.0
    c.from_residual-in_err-place.result (g.C.Context.told c.place.new.ctx) _ _ _ _
    (rw (sym c.word.ensures.word) c.in_err-place.ensures.places) c.from_residual-in_err-place.ensures.1
    (key_short words c.requires.small)

pub tell-requires-clause-small : goal.tell-requires-clause-small
tell-requires-clause-small g c =
    let m = g.T.KeyType.meaning in let saved = g.T.KeyType.saved in let words = c.args.own.words in
    let old = g.C.Context.told c.args.ctx.now in let mid = g.C.Context.told c.write_at.new.ctx in
    let ran = is_change_at m saved words old mid c.requires.writes c.in_ok-wrote.field-0 c.in-Some.wrote
    c.in-Some-change.change c.in-Some.is c.in-Some-change.is c.in_ok-wrote.ensures.wrote in
    small_effect m g.met.T.KeyType.lawful saved words c.requires.writes c.requires.small old mid
    c.in-Some.wrote.reply c.in-Some-change.change ran

pub returns-in_err-tell-clause-runs : goal.returns-in_err-tell-clause-runs
returns-in_err-tell-clause-runs g c =
    let m = g.T.KeyType.meaning in let saved = g.T.KeyType.saved in let words = c.args.own.words in
    let old = g.C.Context.told c.args.ctx.now in let mid = g.C.Context.told c.write_at.new.ctx in
    let ran = is_change_at m saved words old mid c.requires.writes c.in_ok-wrote.field-0 c.in-Some.wrote
    c.in-Some-change.change c.in-Some.is c.in-Some-change.is c.in_ok-wrote.ensures.wrote in
    tell_stopped m g.met.T.KeyType.lawful saved words c.requires.writes c.requires.small old mid
    c.in-Some.wrote.reply c.in-Some-change.change ran
    c.from_residual-in_err-tell.result (g.C.Context.told c.place.new.ctx) (g.C.Context.told c.tell.new.ctx) _ _ _ _
    (rw (sym c.word.ensures.word) c.in_ok-place.ensures.places) c.tell.ensures.seen c.tell.ensures.added
    c.from_residual-in_err-tell.ensures.1 (key_short words c.requires.small)

pub returns-clause-runs : goal.returns-clause-runs
returns-clause-runs g c =
    let m = g.T.KeyType.meaning in let saved = g.T.KeyType.saved in let words = c.args.own.words in
    let old = g.C.Context.told c.args.ctx.now in let mid = g.C.Context.told c.write_at.new.ctx in
    let ran = is_change_at m saved words old mid c.requires.writes c.in_ok-wrote.field-0 c.in-Some.wrote
    c.in-Some-change.change c.in-Some.is c.in-Some-change.is c.in_ok-wrote.ensures.wrote in
    all_done m g.met.T.KeyType.lawful saved words c.requires.writes c.requires.small old mid
    c.in-Some.wrote.reply c.in-Some-change.change ran
    (g.C.Context.told c.place.new.ctx) (g.C.Context.told c.tell.new.ctx) _ _ _ _
    (rw (sym c.word.ensures.word) c.in_ok-place.ensures.places)
    (rw (sym c.is_gone-gone.ensures.gone) c.in_ok-tell.ensures.ok) (key_short words c.requires.small)
