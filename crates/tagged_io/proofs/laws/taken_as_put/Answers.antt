use Rattle.tagged_io.proofs.Parts.{taken-put}
use Rattle.tagged_io.proofs.laws.taken_as_put.Goals as goal

pub returns : goal.returns
returns c = taken-put
