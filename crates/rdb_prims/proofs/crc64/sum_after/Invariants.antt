use Rattle.std.proofs.Common.{◌≡◌, take}
use Rattle.rdb_prims.specs.Checksum.{checksum_after}
use Rattle.rdb_prims.proofs.crc64.sum_after.Given as goal

abbrev pub invariant-loop-byte : goal.invariant-loop-byte
invariant-loop-byte l = l.sum ≡ checksum_after l.fn.sum (take l.byte-index l.piece)
