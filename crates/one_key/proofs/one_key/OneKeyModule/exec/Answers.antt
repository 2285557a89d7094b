-- Serves clause runs of OneKeyModule::exec, and what it owes to write and read.
use Rattle.std.proofs.Common.{◌≡◌, false, refl, sym, ap, ◌∙◌}
use Rattle.core_types.specs.Keys.{value_at}
use Rattle.sequences.specs.Words.{word}
use Rattle.module_laws.specs.Replay.{own_value}
use Rattle.module_laws.specs.Words.{Words}
use Rattle.module_laws.specs.declared.verdict.Verdict.TheVariants as verdict
use Rattle.one_key.specs.OwnWords.{is_write, own}
use Rattle.one_key.specs.inner.KeyLawful.{call_long}
use Rattle.one_key.specs.inner.Steps.{read_reply}
use Rattle.one_key.proofs.Writes.{answered, reads_only}
use Rattle.one_key.proofs.one_key.OneKeyModule.exec.Goals as goal

pub write-requires-clause-key : goal.write-requires-clause-key
write-requires-clause-key g c =
    rw c.in_ok-own.ensures (call_long g.T.KeyType.meaning g.met.T.KeyType.lawful c.args.words.now c.requires)

pub read-requires : goal.read-requires
read-requires g c = record {
  key = rw c.in_ok-own.ensures
      (call_long g.T.KeyType.meaning g.met.T.KeyType.lawful c.args.words.now c.requires);
}

pub returns-in_ok-read-clause-runs : goal.returns-in_ok-read-clause-runs
returns-in_ok-read-clause-runs g c =
    let m = g.T.KeyType.meaning in let words : Words = own c.args.words.now in
    let old = g.C.Context.told c.args.ctx.now in
    let by : is_write m.rows words ≡ false =
    ap (is_write m.rows) (sym c.in_ok-own.ensures)
    ∙ ap (λ rows. is_write rows c.in_ok-own.own.words) (sym c.commands.ensures.rows)
    ∙ sym c.is_write.ensures ∙ c.if-is_write.false in
    answered _ _ _ _ old old _ _ refl (reads_only m old words by)
    (ap verdict.Say (c.in_ok-read.ensures.reply
    ∙ ap (λ (ws : Words). read_reply m ws (own_value m.name (value_at old.seen.keys (word 1 ws)))) c.in_ok-own.ensures))
