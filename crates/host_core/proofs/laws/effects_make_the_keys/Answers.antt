-- Serves clause keys of effects_make_the_keys.
use Rattle.host_core.proofs.Remaking.{step_remade}
use Rattle.host_core.proofs.laws.effects_make_the_keys.Goals as goal

pub returns : goal.returns
returns c = record { keys = λ state event. step_remade state event }
