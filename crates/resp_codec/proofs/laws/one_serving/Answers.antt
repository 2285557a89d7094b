use Rattle.resp_codec.proofs.WholeReadings.{some_served, one_served, served_to_quit, served_all, served_front}
use Rattle.resp_codec.proofs.laws.one_serving.Goals as goal

pub returns : goal.returns
returns c = record { some = some_served; one = one_served; quit = served_to_quit; all = served_all; front = served_front }
