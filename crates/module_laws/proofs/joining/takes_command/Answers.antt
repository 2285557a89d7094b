use Rattle.std.proofs.Common.{sym, ap, ◌∙◌, arith}
use Rattle.std.proofs.Common.{below_more}
use Rattle.std.specs.List.{list_any}
use Rattle.module_laws.specs.Sets.{Modules, has_command}
use Rattle.module_laws.proofs.joining.takes_command.Goals as goal

pub returns-then-shares : goal.returns-then-shares
returns-then-shares g c =
    let a : Modules = g.A.ModuleSet.modules in let b : Modules = g.B.ModuleSet.modules in
    record {
      place = c.loop-place.place;
      there = omega (arith, c.loop-place-test.true, c.count-place-end.ensures.count);
      taken = ap (λ rows. list_any (λ row. has_command b row.name) rows) (sym c.commands.ensures.rows) ∙ sym c.shares.ensures ∙ c.if-shares.true;
    }

pub loop-place-preserved : goal.loop-place-preserved
loop-place-preserved g c =
    let b : Modules = g.B.ModuleSet.modules in
    below_more _ _ c.loop-place.invariant
    (ap (λ rows. list_any (λ row. has_command b row.name) rows) (sym c.commands.ensures.rows) ∙ sym c.shares.ensures ∙ c.if-shares.false)

pub returns : goal.returns
returns g c =
    let few = (g.met.A.ModuleSet.lawful c.args.a.now).few in
    λ p within. c.loop-place.invariant p (omega (arith, within, few, c.loop-place-test.false, c.count-place-end.ensures.count))
