use Rattle.std.proofs.Common.{arith}
use Rattle.effect_log.proofs.UnitTexts.{multi_sent, exec_sent, unit_several}
use Rattle.effect_log.proofs.unit.unit_text.Goals as goal

pub returns : goal.returns
returns c = grind (arith, multi_sent, exec_sent, unit_several c.args.effects.now)
