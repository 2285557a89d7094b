-- Serves the clause of set_notes: the notes so far, and then those of the pairs that are left.
use Rattle.std.proofs.Common.{◌≡◌, ◌++◌, map}
use Rattle.key_cmds.specs.SeveralKeys.{set_note}
use Rattle.key_cmds.proofs.setting.set_notes.Given as goal

abbrev pub invariant-loop-key : goal.invariant-loop-key
invariant-loop-key l = l.notes ++ map set_note l.key-iterator ≡ map set_note l.fn.pairs
