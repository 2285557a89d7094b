use Rattle.effect_log.proofs.OneLog.{readable, holds_one, breaks_one, holds_unbroken}
use Rattle.effect_log.proofs.reader.one_log.Goals as goal

pub returns : goal.returns
returns c = record {
  either = readable;
  units = holds_one;
  fault = breaks_one;
  apart = holds_unbroken;
}
