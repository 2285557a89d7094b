use Rattle.std.proofs.Common.{arith}
use Rattle.rdb_prims.proofs.StringsFound.{answers_string, answers_fault}
use Rattle.rdb_prims.proofs.string.read_string.Goals as goal

pub returns-clause-string : goal.returns-clause-string
returns-clause-string c =
    answers_string c.args.bytes.now c.args.at c.string_of.result (λ i. omega (arith, c.type_inv.bytes i)) c.string_of.ensures

pub returns-clause-fault : goal.returns-clause-fault
returns-clause-fault c = λ fault e.
    answers_fault c.args.bytes.now c.args.at fault c.string_of.result (λ i. omega (arith, c.type_inv.bytes i)) c.string_of.ensures e
