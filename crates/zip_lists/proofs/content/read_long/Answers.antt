use Rattle.std.proofs.Common.{arith}
use Rattle.zip_lists.proofs.ItemFronts.{long_announced, long_open}
use Rattle.zip_lists.proofs.content.read_long.Goals as goal

pub take_text-requires-clause-announced : goal.take_text-requires-clause-announced
take_text-requires-clause-announced c =
    long_announced c.args.bytes.now c.from_be_bytes-size.result (omega arith) (omega arith)
    (omega arith) c.from_be_bytes-size.ensures

pub returns-in_default : goal.returns-in_default
returns-in_default c = long_open c.args.bytes.now (omega arith) (omega arith) (omega arith)
    (omega arith)
