use Rattle.restart.proofs.OneOpening.{some_outcome, one_outcome, one_refusal, outcomes_apart, refused_has_log}
use Rattle.restart.proofs.laws.one_opening.Goals as goal

pub returns : goal.returns
returns c = record {
  some = some_outcome;
  one = one_outcome;
  refused = one_refusal;
  apart = outcomes_apart;
  dump = refused_has_log;
}
