use Rattle.module_laws.specs.inner.HalfTypes.{kept_left}
use Rattle.module_laws.proofs.left.LeftContext.set_native.Goals as goal

pub set_native-requires-clause-kept : goal.set_native-requires-clause-kept
set_native-requires-clause-kept g c =
    kept_left g.L.Viewed.types g.R.Viewed.types (g.L.Viewed.native c.args.value) c.requires.kept
