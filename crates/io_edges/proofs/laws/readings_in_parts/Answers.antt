use Rattle.io_edges.proofs.Readings.{none_told, parts_told}
use Rattle.io_edges.proofs.laws.readings_in_parts.Goals as goal

pub returns : goal.returns
returns c = record {
  none = λ told. none_told told.given;
  parts = λ first second old middle new is then. parts_told first second old.given middle.given new.given is then;
}
