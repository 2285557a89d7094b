-- Serves clause joined of runs_are_joined.
use Rattle.host_core.proofs.Folds.{goes_on}
use Rattle.host_core.proofs.laws.runs_are_joined.Goals as goal

pub returns : goal.returns
returns g c = record { joined = λ step state first second. goes_on step state first second }
