use Rattle.io_edges.proofs.Taken.{ends}
use Rattle.io_edges.proofs.laws.zero_is_the_end.Goals as goal

pub returns : goal.returns
returns c = record { end = ends }
