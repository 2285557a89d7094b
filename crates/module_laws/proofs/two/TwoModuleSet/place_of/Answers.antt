use Rattle.std.proofs.Common.{arith}
use Rattle.module_laws.specs.inner.TwoSets.{first_place, second_place, no_place}
use Rattle.module_laws.proofs.two.TwoModuleSet.place_of.Goals as goal

pub returns-in-Some : goal.returns-in-Some
returns-in-Some g c = record {
  place = first_place g.A.ModuleSet.modules g.B.ModuleSet.modules c.args.name.now c.in-Some.place c.in-Some.ensures.place;
}

pub returns-in-Some-place_of : goal.returns-in-Some-place_of
returns-in-Some-place_of g c = record {
  place = second_place g.A.ModuleSet.modules g.B.ModuleSet.modules c.args.name.now c.in-Some-place_of.place c.saturating_add.result c.in-None.ensures.place c.in-Some-place_of.ensures.place
      (omega (arith, c.saturating_add.ensures, c.count.ensures.count));
}

pub returns-in-None-place_of : goal.returns-in-None-place_of
returns-in-None-place_of g c = record {
  place = no_place g.A.ModuleSet.modules g.B.ModuleSet.modules c.args.name.now c.in-None.ensures.place c.in-None-place_of.ensures.place;
}
