use Rattle.rdb_prims.proofs.Readings.{length_either, length_same, length_fault_same, length_apart}
use Rattle.rdb_prims.proofs.laws.one_length.Goals as goal

pub returns : goal.returns
returns c = record {
  either = length_either;
  length = length_same;
  fault = length_fault_same;
  apart = length_apart;
}
