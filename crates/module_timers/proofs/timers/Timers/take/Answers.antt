-- Serves the invariant after a timer was taken out.
use Rattle.std.proofs.Common.{refl, sym, ap, ◌∙◌}
use Rattle.module_timers.specs.TimerTable.{TimerTable}
use Rattle.module_timers.specs.inner.Indexed.{table_of}
use Rattle.module_timers.proofs.Agree.{moved, indexed_without, unchanged}
use Rattle.module_timers.proofs.timers.Timers.take.Goals as goal

pub invariant_of-self : goal.invariant_of-self
invariant_of-self c =
    let now = c.self.inside in
    let some = sym c.remove.ensures.timer ∙ c.in-Some.is in
    moved _ c.remove-in-Some.new.self _ c.remove.new.self now.next
    c.remove-in-Some.ensures.removed c.remove.ensures.removed
    (indexed_without now.dues
    (table_of now.timers now.next) c.args.timer c.in-Some.set c.self.invariant some)

pub invariant_of-self-in-None : goal.invariant_of-self-in-None
invariant_of-self-in-None c =
    let now = c.self.inside in
    let table = table_of now.timers now.next in
    let none = sym c.remove.ensures.timer ∙ c.in-None.is in
    moved now.dues now.dues now.timers c.remove.new.self now.next refl
    (c.remove.ensures.removed
    ∙ ap (λ (t : TimerTable). t.timers) (unchanged table c.args.timer none)) c.self.invariant
