-- Serves the clause of place_of.
use Rattle.std.proofs.Common.{None, rules}
use Rattle.std.specs.Prelude.{int_lt}
use Rattle.std.proofs.lemmas.List.Sorted.{IsPartitionPoint-from_clause}
use Rattle.mod_samples.specs.inner.Rises.{parted}
use Rattle.mod_samples.proofs.rising.place_of.Goals as goal

pub returns : goal.returns
returns c =
    let ns = c.args.numbers.now in let n = c.args.n in
    let point = IsPartitionPoint-from_clause (λ m. int_lt m n) _ _ c.partition_point.ensures.partitioned (parted n None ns c.requires) (λ a r q k. search rules) in
    record { within = c.partition_point.ensures.bound; before = point.0; behind = point.1 }
