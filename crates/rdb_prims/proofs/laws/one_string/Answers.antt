use Rattle.rdb_prims.proofs.Readings.{string_either, string_same, string_fault_same, string_apart}
use Rattle.rdb_prims.proofs.laws.one_string.Goals as goal

pub returns : goal.returns
returns c = record {
  either = string_either;
  string = string_same;
  fault = string_fault_same;
  apart = string_apart;
}
