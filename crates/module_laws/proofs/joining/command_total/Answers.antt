use Rattle.std.proofs.Common.{◌≡◌, ◌<◌, ◌≤◌, length, sym, ap, ◌∙◌, arith}
use Rattle.std.proofs.lemmas.List.{length-map}
use Rattle.core_types.specs.CommandRow.{row_of_spec}
use Rattle.module_laws.specs.Sets.{Modules}
use Rattle.module_laws.proofs.Counting.{sum_step, sum_whole, sum_end}
use Rattle.module_laws.proofs.joining.command_total.Goals as goal

pub loop-place-preserved : goal.loop-place-preserved
loop-place-preserved g c =
    let modules : Modules = g.A.ModuleSet.modules in
    let lawful = g.met.A.ModuleSet.lawful c.args.a.now in
    let within : c.loop-place.place < modules.size = omega (arith, c.loop-place-test.true, c.count-place-end.ensures.count) in
    let count : length c.commands.result.now ≡ length (modules.meaning_at c.loop-place.place).rows =
    sym (length-map c.commands.result.now row_of_spec) ∙ ap length c.commands.ensures.rows in
    let next = sum_step (λ m. length m.rows) modules.meaning_at modules.size c.loop-place.place within in
    (omega (arith, c.loop-place.invariant.0, count, next), omega (arith, c.loop-place.invariant.1, count, (lawful.each c.loop-place.place within).commands.few))

pub loop-place-init : goal.loop-place-init
loop-place-init g c =
    let modules : Modules = g.A.ModuleSet.modules in
    (omega (arith, sum_whole (λ m. length m.rows) modules.meaning_at modules.size), omega arith)

pub returns : goal.returns
returns g c =
    let modules : Modules = g.A.ModuleSet.modules in
    let few = (g.met.A.ModuleSet.lawful c.args.a.now).few in
    let past : modules.size ≤ c.loop-place.place = omega (arith, few, c.loop-place-test.false, c.count-place-end.ensures.count) in
    let none = sum_end (λ m. length m.rows) modules.meaning_at modules.size c.loop-place.place past in
    record {
      value = omega (arith, c.loop-place.invariant.0, none);
      few = omega (arith, c.loop-place.invariant.1, few, c.loop-place.auto.place-end, c.count-place-end.ensures.count);
    }
