use Rattle.std.proofs.Common.{take}
use Rattle.host_core.specs.Builtins.{builtins}
use Rattle.host_core.specs.inner.Names.{KnowsThese}
use Rattle.host_core.proofs.names.all_names.Given as goal

-- the commands so far are known, and no others
abbrev pub invariant-loop-number : goal.invariant-loop-number
invariant-loop-number l = KnowsThese (take l.number builtins) l.names
