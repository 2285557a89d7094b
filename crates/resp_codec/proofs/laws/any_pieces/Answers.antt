use Rattle.resp_codec.proofs.WholeReadings.{new_read, feed_on, request_on, skip_on, more_on, bad_on}
use Rattle.resp_codec.proofs.laws.any_pieces.Goals as goal

pub returns : goal.returns
returns c = record { new = new_read; feed = feed_on; request = request_on; skip = skip_on; more = more_on; bad = bad_on }
