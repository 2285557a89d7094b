use Rattle.zip_lists.proofs.Existence.{either_outcome}
use Rattle.zip_lists.proofs.OneOutcome.{one_list, one_place, no_bad_place}
use Rattle.zip_lists.proofs.laws.one_outcome.Goals as goal

pub returns : goal.returns
returns c = record {
  either = either_outcome;
  items = one_list;
  place = one_place;
  apart =
      no_bad_place;
}
