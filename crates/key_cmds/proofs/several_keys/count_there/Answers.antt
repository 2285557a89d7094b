-- Serves the clauses of count_there, where a name is not there.
use Rattle.std.proofs.Common.{◌≡◌, false, length, filter, rules, arith}
use Rattle.key_cmds.specs.SeveralKeys.{is_there}
use Rattle.key_cmds.proofs.Counted.{one_missing}
use Rattle.key_cmds.proofs.several_keys.count_there.Goals as goal

pub overflow_sub-count : goal.overflow_sub-count
overflow_sub-count g c =
    let there = is_there c.args.keys.now in
    let gone : there c.in-Some.name.now ≡ false = search rules in
    (one_missing there c.in-Some.name.now c.loop-name.name-iterator c.next.new.self c.loop-name.count (length (filter there c.args.names))
    c.in-Some.ensures.steps gone c.loop-name.invariant.0).0

pub loop-name-preserved-then-is_none : goal.loop-name-preserved-then-is_none
loop-name-preserved-then-is_none g c =
    let there = is_there c.args.keys.now in
    let gone : there c.in-Some.name.now ≡ false = search rules in
    let less = one_missing there c.in-Some.name.now c.loop-name.name-iterator c.next.new.self c.loop-name.count (length (filter there c.args.names))
    c.in-Some.ensures.steps gone c.loop-name.invariant.0 in
    (less.1, omega (arith, c.loop-name.invariant.1))
