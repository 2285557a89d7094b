use Rattle.std.proofs.Common.{◌∷◌, refl, ap, ◌∙◌}
use Rattle.std.specs.Result.{IsOk}
use Rattle.module_laws.specs.declared.either.Either.TheVariants as either
use Rattle.module_laws.specs.Lending.{lent_typed, lent_unchanged}
use Rattle.module_laws.proofs.HalfViews.{right_fails, right_shown, on_err}
use Rattle.module_laws.proofs.right.RightContext.native_mut.Goals as goal

pub returns : goal.returns
returns g c =
    let told = g.C.Context.told c.args.self.now.ctx.now in
    let both = c.in_ok-self.field-0.now in
    let found = c.in_ok-self.ensures.value in
    let holds = c.native_mut.follows.holds in
    let is : IsOk c.native_mut.result = rw c.in_ok-self.was refl in
    let stays = lent_unchanged told c.args.key.now _ found in (
      (
        refl,
        (λ w ok. let end = holds (either.Right w) is in (end.0, ap (λ names. c.args.self.now.ctx.ghost_name ∷ names) end.1, end.2)),
        (let end = holds both is in on_err c.right_of.result _ (end.0 ∙ stays, ap (λ names. c.args.self.now.ctx.ghost_name ∷ names) end.1, lent_typed _ _ _ _ found end.2)),
      ),
      record {
        lends = tt;
        value = right_shown g.L.Viewed.types g.R.Viewed.types g.L.Viewed.native g.R.Viewed.native g.L.Viewed.typed g.R.Viewed.typed c.args.self.now.apart.apart told.seen.keys c.args.key.now both found (λ lent. lent.now) c.right_of.result c.right_of.ensures.value;
        fault = right_fails g.L.Viewed.types g.R.Viewed.types g.L.Viewed.native g.R.Viewed.native g.L.Viewed.typed g.R.Viewed.typed c.args.self.now.apart.apart told.seen.keys c.args.key.now both found c.right_of.result _ _ c.right_of.ensures.other c.fault_at-other.ensures c.kind.ensures.kind;
      },
    )
