-- Serves the clause of items_of: the items so far, and the words that are left.
use Rattle.std.proofs.Common.{◌≡◌, ◌++◌, drop}
use Rattle.list_cmds.proofs.words.items_of.Given as goal

abbrev pub invariant-loop-word : goal.invariant-loop-word
invariant-loop-word l = l.items.items ++ l.word-iterator ≡ drop 2 l.words
