use Rattle.std.proofs.Common.{sym}
use Rattle.module_laws.proofs.HalfViews.{right_foreign}
use Rattle.module_laws.proofs.left.LeftContext.native.Goals as goal

pub returns-in-Some-clause-fault : goal.returns-in-Some-clause-fault
returns-in-Some-clause-fault g c = (
  sym c.in-Some.ensures.kind,
  right_foreign g.L.Viewed.types g.R.Viewed.types g.L.Viewed.native g.R.Viewed.native g.L.Viewed.typed g.R.Viewed.typed c.args.self.now.apart.apart (g.C.Context.told c.args.self.now.ctx.now).seen.keys c.args.key.now c.in-Ok-Right.field-0.now c.in-Ok-Right.ensures.value _ c.in-Some.kind c.in-Ok-Right.field-0-is c.in-Some.ensures.kind,
)
