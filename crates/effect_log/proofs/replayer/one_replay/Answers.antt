use Rattle.effect_log.proofs.OneReplay.{outcome, Holds-one, IsRefused-one, Holds-unrefused}
use Rattle.effect_log.proofs.replayer.one_replay.Goals as goal

pub returns : goal.returns
returns c = record {
  either = outcome;
  keys = Holds-one;
  refused = IsRefused-one;
  apart = Holds-unrefused;
}
