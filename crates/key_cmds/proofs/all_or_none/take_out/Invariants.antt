-- Serves the clause of take_out: those that are left were put, and so were all at first.
use Rattle.std.proofs.Common.{map, vec_len}
use Rattle.core_types.specs.Keys.{KeysOf}
use Rattle.key_cmds.specs.inner.Setting.{ArePut}
use Rattle.key_cmds.proofs.all_or_none.take_out.Given as goal

abbrev pub invariant-loop-key : goal.invariant-loop-key
invariant-loop-key g l =
    (before : KeysOf g.row.N.Denot) → ArePut (map (λ key. key.now) l.fn.put.items) before l.fn.keys
    → ArePut (map (λ key. key.now) l.put.items) before l.keys

abbrev pub decreases-loop-key : goal.decreases-loop-key
decreases-loop-key g l = vec_len l.put
