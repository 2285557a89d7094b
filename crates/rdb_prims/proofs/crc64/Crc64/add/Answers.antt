use Rattle.std.proofs.Common.{refl}
use Rattle.std.specs.Int.{reverse_bits_onto}
use Rattle.rdb_prims.specs.Checksum.{reflected, stepped, steps}
use Rattle.rdb_prims.proofs.Sums.{table_is}
use Rattle.rdb_prims.proofs.crc64.Crc64.add.Goals as goal

pub sum_after-self-inside-requires : goal.sum_after-self-inside-requires
unfolding steps stepped reflected reverse_bits_onto
sum_after-self-inside-requires c = table_is _ refl refl
