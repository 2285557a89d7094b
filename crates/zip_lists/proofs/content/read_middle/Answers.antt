use Rattle.std.proofs.Common.{◌∙◌, arith}
use Rattle.zip_lists.proofs.ItemFronts.{middle_announced, middle_open}
use Rattle.zip_lists.proofs.content.read_middle.Goals as goal

pub take_text-requires-clause-announced : goal.take_text-requires-clause-announced
take_text-requires-clause-announced c =
    middle_announced c.args.bytes.now c.from.result (omega arith) (omega arith) (omega arith)
    (c.from.ensures ∙ c.from_be_bytes-size.ensures)

pub returns-in_default : goal.returns-in_default
returns-in_default c = middle_open c.args.bytes.now (omega arith) (omega arith) (omega arith)
    (omega arith)
