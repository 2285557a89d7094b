-- Serves the clause of no_serial_twice.
use Rattle.std.proofs.Common.{List, [], ◌∷◌, arith}
use Rattle.value_box.specs.Boxes.{Boxes, Call, Rise, one_issued, one_retired, serials}
use Rattle.value_box.proofs.laws.no_serial_twice.Goals as goal

rises : (boxes : Boxes) (calls : List Call) → Rise boxes.issued (serials boxes calls)
rises boxes [] = tt
rises boxes (Call.Issue ∷ calls) = (omega arith, rises (one_issued boxes) calls)
rises boxes (Call.Retire ∷ calls) = rises (one_retired boxes) calls

pub returns : goal.returns
returns c = λ boxes calls. rises boxes calls
