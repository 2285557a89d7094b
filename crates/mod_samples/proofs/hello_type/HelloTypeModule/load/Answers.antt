-- Serves what load owes to from_vec.
use Rattle.mod_samples.specs.inner.ReadBack.{read_rising}
use Rattle.mod_samples.proofs.hello_type.HelloTypeModule.load.Goals as goal

pub from_vec-numbers-requires : goal.from_vec-numbers-requires
from_vec-numbers-requires c =
    read_rising c.args.encver c.args.items.now c.in_ok-numbers_in.field-0.items c.in_ok-numbers_in.ensures.ok
