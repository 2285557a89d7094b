use Rattle.rdb_prims.proofs.Written.{string_written}
use Rattle.rdb_prims.proofs.laws.strings_read_back.Goals as goal

pub returns : goal.returns
returns c = record { written = string_written }
