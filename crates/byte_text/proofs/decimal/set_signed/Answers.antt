use Rattle.std.proofs.Common.{arith}
use Rattle.std.proofs.lemmas.Fmt.{length-decimal-le}
use Rattle.std.proofs.lemmas.Int.{to_z-of_z}
use Rattle.byte_text.proofs.WritingDigits.{set_before, signed_below}
use Rattle.byte_text.proofs.decimal.set_signed.Goals as goal

pub overflow_sub-sign : goal.overflow_sub-sign
overflow_sub-sign c = omega (arith, length-decimal-le 19 c.unsigned_abs.result)

pub returns-clause-digits : goal.returns-clause-digits
returns-clause-digits c = grind (arith, to_z-of_z, set_before, signed_below, length-decimal-le 19 c.unsigned_abs.result)
