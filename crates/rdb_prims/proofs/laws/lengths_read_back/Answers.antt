use Rattle.rdb_prims.proofs.Written.{length_written, shortest_text}
use Rattle.rdb_prims.proofs.laws.lengths_read_back.Goals as goal

pub returns : goal.returns
returns c = record { written = length_written; shortest = shortest_text }
