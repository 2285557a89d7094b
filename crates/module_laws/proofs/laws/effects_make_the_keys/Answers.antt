use Rattle.module_laws.proofs.SetReplay.{set_effects}
use Rattle.module_laws.proofs.laws.effects_make_the_keys.Goals as goal

pub returns : goal.returns
returns c = set_effects
