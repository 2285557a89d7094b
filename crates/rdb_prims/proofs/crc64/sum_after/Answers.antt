use Rattle.std.proofs.Common.{◌<◌, ap, ◌∙◌, get_or, arith}
use Rattle.rdb_prims.specs.Checksum.{with_byte}
use Rattle.rdb_prims.proofs.Sums.{by_table, next_byte}
use Rattle.rdb_prims.proofs.crc64.sum_after.Goals as goal

pub loop-byte-preserved : goal.loop-byte-preserved
loop-byte-preserved c =
    let i = c.loop-byte.byte-index in
    let byte = get_or c.args.piece.now i 0 in
    let small : byte < 256 = omega (arith, c.type_inv.piece i) in
    by_table c.args.table.now c.loop-byte.sum byte c.from.result c.requires small c.from.ensures
    ∙ ap (λ s. with_byte s byte) c.loop-byte.invariant
    ∙ next_byte c.args.sum c.args.piece.now i c.loop-byte-test.true
