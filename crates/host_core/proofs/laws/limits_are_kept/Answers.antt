-- Serves clauses step and replay of limits_are_kept.
use Rattle.host_core.proofs.KeptLimits.{replay_kept, step_kept}
use Rattle.host_core.proofs.laws.limits_are_kept.Goals as goal

pub returns-clause-step : goal.returns-clause-step
returns-clause-step c allowed state event servable is = step_kept allowed state event servable is

pub returns-clause-replay : goal.returns-clause-replay
returns-clause-replay c allowed keys effect after request is ok = replay_kept allowed keys effect after request is ok
