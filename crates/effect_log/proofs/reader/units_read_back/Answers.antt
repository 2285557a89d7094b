use Rattle.effect_log.proofs.GoesOn.{HoldsUnits-join, BreaksAt-join}
use Rattle.effect_log.proofs.ReadBack.{whole_read, torn_read}
use Rattle.effect_log.proofs.reader.units_read_back.Goals as goal

pub returns : goal.returns
returns c = record {
  whole = whole_read;
  torn = torn_read;
  joined = HoldsUnits-join;
  joined_fault = BreaksAt-join;
}
