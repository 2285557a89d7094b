-- Serves clause knows of all_names.
use Rattle.std.proofs.Common.{[], subst, sym}
use Rattle.std.proofs.lemmas.List.{take_all}
use Rattle.std.proofs.lemmas.Option.{slice_get-get_or}
use Rattle.host_core.specs.Builtins.{builtins}
use Rattle.host_core.specs.inner.Names.{KnowsThese}
use Rattle.host_core.proofs.KnownNames.{knows_all, knows_none}
use Rattle.host_core.proofs.names.all_names.Goals as goal

pub loop-number-init : goal.loop-number-init
loop-number-init c = subst (KnowsThese []) (sym c.new-names.ensures.empty) knows_none

pub add_builtin-requires-clause-numbered : goal.add_builtin-requires-clause-numbered
add_builtin-requires-clause-numbered c = slice_get-get_or builtins c.loop-number.number _ c.loop-number-test.true

pub returns : goal.returns
returns c =
    record {
      knows = knows_all c.loop-number.names
          (subst (λ cmds. KnowsThese cmds c.loop-number.names) (take_all c.loop-number.number builtins c.loop-number-test.false) c.loop-number.invariant);
    }
