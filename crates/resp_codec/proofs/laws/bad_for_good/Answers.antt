use Rattle.resp_codec.proofs.OneReading.{refused_again, none_taken, none_awaited}
use Rattle.resp_codec.proofs.laws.bad_for_good.Goals as goal

pub returns : goal.returns
returns c = record { again = refused_again; no_request = none_taken; no_wait = none_awaited }
