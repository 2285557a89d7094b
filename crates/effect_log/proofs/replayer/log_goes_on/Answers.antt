use Rattle.effect_log.proofs.GoesOn.{Holds-kept, Holds-more, Holds-torn}
use Rattle.effect_log.proofs.Shorter.{Holds-cut}
use Rattle.effect_log.proofs.replayer.log_goes_on.Goals as goal

pub returns : goal.returns
returns c = record {
  kept = Holds-kept;
  cut = Holds-cut;
  more = Holds-more;
  torn = Holds-torn;
}
