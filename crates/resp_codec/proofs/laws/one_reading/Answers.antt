use Rattle.resp_codec.proofs.WholeReadings.{some_reading, one_reading}
use Rattle.resp_codec.proofs.laws.one_reading.Goals as goal

pub returns : goal.returns
returns c = record { some = some_reading; one = one_reading }
