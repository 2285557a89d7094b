use Rattle.module_laws.specs.inner.TwoSets.{types_apart}
use Rattle.module_laws.proofs.two.Two.apart.Goals as goal

pub new-requires : goal.new-requires
new-requires g c =
    types_apart g.A.ModuleSet.modules g.B.ModuleSet.modules g.A.Value.Viewed.types g.B.Value.Viewed.types g.met.A.ModuleSet.types_are g.met.B.ModuleSet.types_are c.args.self.now.names
