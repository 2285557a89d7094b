-- Serves clause others of others_are_no_changes.
use Rattle.sequences.specs.Words.{word}
use Rattle.host_core.specs.Builtins.{builtin_named}
use Rattle.host_core.proofs.Refused.{no_change}
use Rattle.host_core.proofs.laws.others_are_no_changes.Goals as goal

pub returns : goal.returns
returns c = record { others = λ keys effect reads. no_change (builtin_named (word 0 effect.words)) keys effect.words reads }
