-- Serves the clause on who stands in the lines afterwards.
use Rattle.std.proofs.Common.{ap, ◌∙◌}
use Rattle.key_events.specs.inner.Lines.{without_place}
use Rattle.key_events.proofs.Standing.{leaves_one}
use Rattle.key_events.proofs.lines.Lines.remove_all.Goals as goal

pub loop-name-preserved : goal.loop-name-preserved
loop-name-preserved c =
    leaves_one c.args.names.now c.loop-name.name-index c.name-item.result c.args.client
    c.args.self.now c.loop-name.self c.remove.new.self c.loop-name-test.true c.name-item.is
    c.loop-name.invariant
    (c.remove.ensures.removed
    ∙ ap (λ n. without_place c.loop-name.self n c.args.client) c.as_slice.ensures.bytes)
