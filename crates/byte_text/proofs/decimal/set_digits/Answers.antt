use Rattle.std.proofs.Common.{rules}
use Rattle.byte_text.proofs.WritingDigits.{room, digit_set, all_set, all_begins}
use Rattle.byte_text.proofs.decimal.set_digits.Goals as goal

pub overflow_sub-first : goal.overflow_sub-first
overflow_sub-first c = search (rules, room)

pub loop-rest-preserved : goal.loop-rest-preserved
loop-rest-preserved c = search (rules, digit_set)

pub overflow_sub-first-2 : goal.overflow_sub-first-2
overflow_sub-first-2 c = search (rules, room)

pub returns-clause-begins : goal.returns-clause-begins
returns-clause-begins c = search (rules, all_begins)

pub returns-clause-digits : goal.returns-clause-digits
returns-clause-digits c = search (rules, all_set)
