use Rattle.effect_log.proofs.OpenedUnits.{FaultAt-first}
use Rattle.effect_log.proofs.front.read_unit.Goals as goal

pub returns-in-Bad : goal.returns-in-Bad
returns-in-Bad c =
    let front = rw c.in-Bad.is at c.in_ok-size.ensures in
    FaultAt-first c.args.bytes.now c.in-Bad.why c.in-Bad.place front
