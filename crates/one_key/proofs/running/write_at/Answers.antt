-- Serves the clauses wrote and err of write_at.
use Rattle.std.proofs.Common.{refl, sym}
use Rattle.std.specs.Result.{IsOk}
use Rattle.one_key.proofs.LentValues.{lent_same, on_err, wrote_there}
use Rattle.one_key.proofs.running.write_at.Goals as goal

pub returns-in_err-write_held-in-Ok-clause-err : goal.returns-in_err-write_held-in-Ok-clause-err
returns-in_err-write_held-in-Ok-clause-err g c =
    let is : IsOk c.native_mut.result = rw c.in-Ok.is refl in
    on_err c.from_residual.result _ (lent_same g.T.KeyType.meaning g.T.KeyType.saved c.word.result.now _ _
    c.in-Ok.held.now.value c.write_held.new.held.value c.in-Ok.ensures.value
    (c.native_mut.follows.holds c.write_held.new.held is).0 c.in_err-write_held-in-Ok.ensures.err)

pub returns-in_ok-write_held-in-Ok-clause-wrote : goal.returns-in_ok-write_held-in-Ok-clause-wrote
returns-in_ok-write_held-in-Ok-clause-wrote g c =
    let is : IsOk c.native_mut.result = rw c.in-Ok.is refl in
    rw (sym c.word.ensures.word)
    (wrote_there g.T.KeyType.meaning g.T.KeyType.saved c.word.result.now _ _
    c.in-Ok.held.now.value c.write_held.new.held.value c.in-Ok.ensures.value
    (c.native_mut.follows.holds c.write_held.new.held is).0 c.args.words.now c.in_ok-write_held-in-Ok.field-0
    c.in_ok-write_held-in-Ok.ensures.does)
