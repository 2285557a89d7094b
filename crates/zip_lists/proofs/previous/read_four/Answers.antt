use Rattle.std.proofs.Common.{arith}
use Rattle.zip_lists.proofs.Fronts.{part_four, whole_four}
use Rattle.zip_lists.proofs.previous.read_four.Goals as goal

pub returns-in_default : goal.returns-in_default
returns-in_default c = part_four c.args.bytes.now c.requires (omega arith)

pub returns-in-len5-up : goal.returns-in-len5-up
returns-in-len5-up c = whole_four c.args.bytes.now c.from_le_bytes.result c.requires
    (omega arith) c.from_le_bytes.ensures
