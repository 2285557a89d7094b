use Rattle.std.proofs.Common.{◌≡◌, ◌<◌, true, sym, ap, ◌∙◌, arith}
use Rattle.module_laws.specs.Sets.{Modules, has_row}
use Rattle.module_laws.specs.inner.TwoSets.{none_listed}
use Rattle.module_laws.proofs.Counting.{any_at}
use Rattle.module_laws.proofs.joining.holds_command.Goals as goal

pub returns-then-holds : goal.returns-then-holds
returns-then-holds g c =
    let modules : Modules = g.B.ModuleSet.modules in
    let within : c.loop-place.place < modules.size = omega (arith, c.loop-place-test.true, c.count-place-end.ensures.count) in
    let held : has_row (modules.meaning_at c.loop-place.place).rows c.args.name.now ≡ true =
    ap (λ rows. has_row rows c.args.name.now) (sym c.commands.ensures.rows) ∙ sym c.holds.ensures ∙ c.if-holds.true in
    sym (any_at (λ m. has_row m.rows c.args.name.now) modules.size modules.meaning_at c.loop-place.place within held)

pub returns : goal.returns
returns g c =
    let modules : Modules = g.B.ModuleSet.modules in
    let few = (g.met.B.ModuleSet.lawful c.args.b.now).few in
    sym (none_listed (λ m. has_row m.rows c.args.name.now) modules.size modules.meaning_at
    (λ p within. c.loop-place.invariant p (omega (arith, within, few, c.loop-place-test.false, c.count-place-end.ensures.count))))
