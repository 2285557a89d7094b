use Rattle.std.proofs.Common.{leb, rules}
use Rattle.std.proofs.lemmas.List.Sorted.{IsPartitionPoint-from_clause, IsPartitionedBy-leb}
use Rattle.replica_feed.proofs.Kept.{parted_at, same_rising}
use Rattle.replica_feed.proofs.units.Units.place_above.Goals as goal

pub returns : goal.returns
returns c =
    let rises = same_rising c.self.inside.units.items c.args.self.now c.self.view_is c.requires.rising in
    let parted = IsPartitionedBy-leb (λ u. u.to) c.self.inside.units.items c.args.from rises in
    let point = IsPartitionPoint-from_clause (λ u. leb u.to c.args.from) _ _ c.partition_point.ensures.partitioned parted (λ a r q k. search rules) in
    parted_at c.self.inside.units.items c.args.self.now c.args.from c.partition_point.result c.self.view_is point
