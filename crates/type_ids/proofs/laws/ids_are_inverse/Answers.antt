use Rattle.type_ids.proofs.Ids.{id-range, id-some, ids_one}
use Rattle.type_ids.proofs.laws.ids_are_inverse.Goals as goal

pub returns : goal.returns
returns c = record { id = id-range; name = id-some; one = ids_one }
