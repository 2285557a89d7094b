-- Serves the clauses of on_hash_key.
use Rattle.std.proofs.Common.{◌≡◌, ◌∙◌, None, Option, refl, sym, ap, subst}
use Rattle.std.specs.Option.{OnSome, is_some, option_copied_mut}
use Rattle.core_types.specs.Keys.{value_at, with_changed}
use Rattle.core_types.specs.declared.value.Value.{Value}
use Rattle.sequences.specs.Words.{word}
use Rattle.hash_cmds.specs.Rows.{row}
use Rattle.key_cmds.specs.OneKey.{hash_done}
use Rattle.key_cmds.specs.declared.plain.Plain.TheVariants as plain
use Rattle.key_cmds.specs.inner.Plain.{done_of}
use Rattle.key_cmds.specs.inner.Settling.{HasRoom}
use Rattle.key_cmds.proofs.Carrying.{absent_does, done_err, done_keys, done_left, done_told, err_of, lent_does, lent_same, lent_value}
use Rattle.key_cmds.proofs.on_hash.on_hash_key.Goals as goal

pub settle-requires-clause-there : goal.settle-requires-clause-there
settle-requires-clause-there g c =
    let lent = c.get_mut in
    let key = c.word.result.now in
    let left = c.hash_outcome.new.held in
    let ends = subst (λ o. OnSome o (lent.follows.lender left ≡ with_changed c.args.keys.now key left)) c.in-Some.is (lent.follows.holds left) in
    sym (ap is_some (lent_value key c.word-in-Some.result.now (c.word.ensures.word ∙ sym c.word-in-Some.ensures.word) c.args.keys.now (lent.follows.lender left) left ends))

pub settle-requires-clause-room : goal.settle-requires-clause-room
settle-requires-clause-room g c =
    let lent = c.get_mut in
    let key = c.word.result.now in
    let left = c.hash_outcome.new.held in
    let ends = subst (λ o. OnSome o (lent.follows.lender left ≡ with_changed c.args.keys.now key left)) c.in-Some.is (lent.follows.holds left) in
    subst (λ (v : Option (Value g.row.N.Denot)). HasRoom c.hash_outcome.new.left v)
    (sym (lent_value key c.word-in-Some.result.now (c.word.ensures.word ∙ sym c.word-in-Some.ensures.word) c.args.keys.now (lent.follows.lender left) left ends))
    c.in_ok-outcome-in-Some.ensures.room

pub returns-in_ok-outcome-in-Some : goal.returns-in_ok-outcome-in-Some
returns-in_ok-outcome-in-Some g c =
    let lent = c.get_mut in
    let key = c.word.result.now in
    let words = c.args.words.now in
    let old = c.args.keys.now in
    let held = c.in-Some.held.now in
    let left = c.hash_outcome.new.held in
    let mid = lent.follows.lender left in
    let new = c.settle.new.keys in
    let o = c.in_ok-outcome-in-Some.outcome in
    let done = hash_done c.args.cmd (value_at old (word 1 words)) words in
    let ends = subst (λ o. OnSome o (mid ≡ with_changed old key left)) c.in-Some.is (lent.follows.holds left) in
    let has = sym lent.ensures.value ∙ ap option_copied_mut c.in-Some.is in
    let does = lent_does key (word 1 words) c.word.ensures.word old mid o held left
    (λ v. done_of plain.Hash (hash_done c.args.cmd v words)) has ends c.in_ok-outcome-in-Some.ensures.does in
    let at = c.word-in-Some.result.now in
    let same = c.word-in-Some.ensures.word in
    let before = c.args.left.now.items in
    let between = c.hash_outcome.new.left.items in
    let after = c.settle.new.left.items in
    let kept = c.hash_outcome.ensures.same in
    record {
      keys = done_keys plain.Hash c.settle.result at (word 1 words) same o old mid new done does c.settle.ensures.keys;
      told = done_told plain.Hash c.settle.result at (word 1 words) same o old mid new done does c.settle.ensures.told;
      left = done_left plain.Hash c.settle.result at (word 1 words) same o old mid new done does before between after kept c.settle.ensures.left;
      err = done_err plain.Hash c.settle.result at (word 1 words) same o old mid new done does before between after kept c.settle.ensures.puts c.settle.ensures.err;
    }

pub returns-in_ok-run-in-None : goal.returns-in_ok-run-in-None
returns-in_ok-run-in-None g c =
    let lent = c.get_mut in
    let words = c.args.words.now in
    let old = c.args.keys.now in
    let mid = lent.follows.lender-at-none in
    let new = c.settle-in-None.new.keys in
    let o = c.of_hash-outcome.result in
    let done = hash_done c.args.cmd (value_at old (word 1 words)) words in
    let does = absent_does c.word.result.now (word 1 words) c.word.ensures.word old mid plain.Hash c.in_ok-run-in-None.field-0 o
    (row c.args.cmd None words) (λ v. done_of plain.Hash (hash_done c.args.cmd v words))
    (sym lent.ensures.value ∙ ap option_copied_mut c.in-None.is) lent.follows.holds-at-none c.of_hash-outcome.ensures refl c.in_ok-run-in-None.ensures.does in
    let at = c.word-in-None.result.now in
    let same = c.word-in-None.ensures.word in
    let before = c.args.left.now.items in
    let after = c.settle-in-None.new.left.items in
    record {
      keys = done_keys plain.Hash c.settle-in-None.result at (word 1 words) same o old mid new done does c.settle-in-None.ensures.keys;
      told = done_told plain.Hash c.settle-in-None.result at (word 1 words) same o old mid new done does c.settle-in-None.ensures.told;
      left = done_left plain.Hash c.settle-in-None.result at (word 1 words) same o old mid new done does before before after refl c.settle-in-None.ensures.left;
      err = done_err plain.Hash c.settle-in-None.result at (word 1 words) same o old mid new done does before before after refl c.settle-in-None.ensures.puts c.settle-in-None.ensures.err;
    }

pub returns-in_err-outcome-in-Some-clause-err : goal.returns-in_err-outcome-in-Some-clause-err
returns-in_err-outcome-in-Some-clause-err g c =
    let lent = c.get_mut in
    let key = c.word.result.now in
    let old = c.args.keys.now in
    let left = c.hash_outcome.new.held in
    let mid = lent.follows.lender left in
    let ends = subst (λ o. OnSome o (mid ≡ with_changed old key left)) c.in-Some.is (lent.follows.holds left) in
    let has = sym lent.ensures.value ∙ ap option_copied_mut c.in-Some.is in
    err_of c.from_residual.result
    (lent_same key key refl old mid c.in-Some.held.now left has ends c.in_err-outcome-in-Some.ensures.err, c.hash_outcome.ensures.same)
