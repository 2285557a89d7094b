use Rattle.std.proofs.Common.{◌≡◌, ◌++◌, take}
use Rattle.std.specs.List.{flat_map}
use Rattle.effect_log.specs.Unit.{effect_text}
use Rattle.effect_log.proofs.unit.append_effects.Given as goal

-- the requests of the effects so far were appended
abbrev pub invariant-loop-effect : goal.invariant-loop-effect
invariant-loop-effect l =
    l.text ≡ l.fn.text ++ flat_map effect_text (take l.effect-index l.effect-items)
