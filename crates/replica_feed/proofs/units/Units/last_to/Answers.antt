use Rattle.std.proofs.Common.{ap, ◌∙◌, refl}
use Rattle.replica_feed.specs.Units.{last_to}
use Rattle.replica_feed.proofs.Kept.{last_end}
use Rattle.replica_feed.proofs.units.Units.last_to.Goals as goal

pub returns-in-Some : goal.returns-in-Some
returns-in-Some c =
    c.to.ensures ∙ last_end c.args.first _ c.in-Some.last.now _ c.self.inside.units.ok.0 (c.in-Some.ensures.variant.0 refl) c.in-Some.ensures.lookup ∙ ap (last_to c.args.first) c.self.view_is
