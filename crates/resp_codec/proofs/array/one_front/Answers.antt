use Rattle.resp_codec.proofs.Fronts.{some_front, one_front}
use Rattle.resp_codec.proofs.array.one_front.Goals as goal

pub returns : goal.returns
returns c = record { some = some_front; one = one_front }
