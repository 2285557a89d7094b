use Rattle.module_laws.specs.inner.HalfTypes.{kept_right}
use Rattle.module_laws.proofs.right.RightContext.set_native.Goals as goal

pub set_native-requires-clause-kept : goal.set_native-requires-clause-kept
set_native-requires-clause-kept g c =
    kept_right g.L.Viewed.types g.R.Viewed.types (g.R.Viewed.native c.args.value) c.args.self.now.apart.apart (g.R.Viewed.typed c.args.value) c.requires.kept
