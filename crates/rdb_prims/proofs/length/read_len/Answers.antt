use Rattle.std.proofs.Common.{arith}
use Rattle.rdb_prims.proofs.Lengths.{answers_length, answers_fault}
use Rattle.rdb_prims.proofs.length.read_len.Goals as goal

pub returns-clause-length : goal.returns-clause-length
returns-clause-length c =
    answers_length c.args.bytes.now c.args.at c.length_of.result (λ i. omega (arith, c.type_inv.bytes i)) c.length_of.ensures

pub returns-clause-fault : goal.returns-clause-fault
returns-clause-fault c =
    answers_fault c.args.bytes.now c.args.at c.length_of.result (λ i. omega (arith, c.type_inv.bytes i)) c.length_of.ensures
