-- Serves clause more of sets.
use Rattle.std.proofs.Common.{length, ap, arith}
use Rattle.hash_cmds.proofs.Lengths.{length-with_fields}
use Rattle.hash_cmds.proofs.setting.sets.Goals as goal

pub returns-clause-more : goal.returns-clause-more
returns-clause-more c =
    let between = length-with_fields c.args.hash.now c.in_ok-fields.fields in
    let same = ap length c.in_ok-put_all.ensures.ok in
    omega (arith, between.at_least, same)
