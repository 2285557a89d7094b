use Rattle.resp_codec.proofs.WholeReadings.{rest_goes_on, goes_on, bad_stays, written_back}
use Rattle.resp_codec.proofs.laws.reading_goes_on.Goals as goal

pub returns : goal.returns
returns c = record { rest = rest_goes_on; left = goes_on; bad = bad_stays; written = written_back }
