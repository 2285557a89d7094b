-- Serves the clause of pairs: the fields so far, and those that are to come.
use Rattle.std.proofs.Common.{◌≡◌, ◌++◌, length}
use Rattle.hash_cmds.specs.Words.{pairs}
use Rattle.hash_cmds.proofs.words.pairs.Given as goal

abbrev pub invariant-loop-name : goal.invariant-loop-name
invariant-loop-name l = l.fields.items ++ pairs l.rest ≡ pairs l.fn.words

abbrev pub decreases-loop-name : goal.decreases-loop-name
decreases-loop-name l = length l.rest
