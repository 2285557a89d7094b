-- Serves clauses does and err of run.
use Rattle.std.proofs.Common.{◌≡◌, OnErr, Result, Ok, Err, Some, ap}
use Rattle.hash_cmds.proofs.running.run.Goals as goal

pub returns-in-Some-clause-does : goal.returns-in-Some-clause-does
returns-in-Some-clause-does c = rw c.in-Some.is c.run_on.ensures.does

both : {T E A : Type 0} (r : Result T E) (a b : A) → OnErr r (a ≡ b) → OnErr r (Some a ≡ Some b)
both (Ok x) a b h = h
both (Err e) a b h = ap Some h

pub returns-in-Some-clause-err : goal.returns-in-Some-clause-err
returns-in-Some-clause-err c = rw c.in-Some.is (both _ _ _ c.run_on.ensures.err)
