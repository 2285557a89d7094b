use Rattle.core_types.specs.Keys.{key_count}
use Rattle.host_core.proofs.Removals.{HasMade}
use Rattle.host_core.proofs.expiring.expire.Given as goal

-- this many removals were made, and these keys are left
abbrev pub invariant-loop : goal.invariant-loop
invariant-loop l = HasMade l.moment (key_count l.fn.keys) l.fn.keys l.counter l.effects l.keys
