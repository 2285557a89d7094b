use Rattle.std.proofs.lemmas.List.{take_rest}
use Rattle.effect_log.proofs.OpenedUnits.{IsSoFar-opened, IsSoFar-more, IsSoFar-closed, IsTorn-so_far, IsNested-so_far, FaultAt-so_far}
use Rattle.effect_log.proofs.front.read_enclosed.Goals as goal

pub loop-starts-init : goal.loop-starts-init
loop-starts-init c =
    rw (c.new-effects.ensures.empty, c.new-starts.ensures.items) (IsSoFar-opened c.args.bytes.now c.args.offset c.args.opening c.requires.opened)

pub loop-starts-preserved : goal.loop-starts-preserved
loop-starts-preserved c =
    let front = rw (c.in-Effect.is, take_rest c.args.bytes.now c.loop-starts.place) at c.in_ok-effect.ensures in
    rw (c.in_ok-add_effect-in-Effect.ensures.effects, c.in_ok-add_effect-in-Effect.ensures.starts) (IsSoFar-more c.args.bytes.now c.args.offset c.loop-starts.effects c.loop-starts.starts.items c.loop-starts.place c.in-Effect.effect c.in-Effect.size c.loop-starts.invariant front)

pub returns-in-Exec : goal.returns-in-Exec
returns-in-Exec c =
    let front = rw (c.in-Exec.is, take_rest c.args.bytes.now c.loop-starts.place) at c.in_ok-effect.ensures in
    IsSoFar-closed c.args.bytes.now c.args.offset c.loop-starts.effects c.loop-starts.starts.items c.loop-starts.place c.in-Exec.size c.loop-starts.invariant front

pub returns-in-Multi : goal.returns-in-Multi
returns-in-Multi c =
    let front = rw (c.in-Multi.is, take_rest c.args.bytes.now c.loop-starts.place) at c.in_ok-effect.ensures in
    IsNested-so_far c.args.bytes.now c.args.offset c.loop-starts.effects c.loop-starts.starts.items c.loop-starts.place _ c.loop-starts.invariant front

pub returns-in-Unfinished : goal.returns-in-Unfinished
returns-in-Unfinished c =
    let front = rw (c.in-Unfinished.is, take_rest c.args.bytes.now c.loop-starts.place) at c.in_ok-effect.ensures in
    IsTorn-so_far c.args.bytes.now c.args.offset c.loop-starts.effects c.loop-starts.starts.items c.loop-starts.place c.loop-starts.invariant front

pub returns-in-Bad : goal.returns-in-Bad
returns-in-Bad c =
    let front = rw (c.in-Bad.is, take_rest c.args.bytes.now c.loop-starts.place) at c.in_ok-effect.ensures in
    FaultAt-so_far c.args.bytes.now c.args.offset c.loop-starts.effects c.loop-starts.starts.items c.loop-starts.place c.in-Bad.why c.in-Bad.at c.loop-starts.invariant front
