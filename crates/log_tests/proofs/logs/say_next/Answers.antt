use Rattle.log_tests.proofs.logs.say_next.Goals as goal

pub say_taken-requires : goal.say_taken-requires
say_taken-requires c =
    let taken = c.in_ok-end.ensures.unit c.in-Unit.effects (cc) in taken.count
