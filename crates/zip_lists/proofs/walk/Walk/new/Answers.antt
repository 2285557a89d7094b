use Rattle.std.proofs.Common.{refl}
use Rattle.zip_lists.proofs.Walks.{walked-new}
use Rattle.zip_lists.proofs.walk.Walk.new.Goals as goal

pub returns : goal.returns
returns c = walked-new c.args.bytes.now _ c.requires refl refl refl refl c.new.ensures.empty
