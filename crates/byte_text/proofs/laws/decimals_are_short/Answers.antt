use Rattle.byte_text.proofs.Decimals.{decimal-short, decimal-digits, signed_decimal-short, signed_decimal-digits}
use Rattle.byte_text.proofs.laws.decimals_are_short.Goals as goal

pub returns : goal.returns
returns c = record {
  unsigned = decimal-short;
  digits = decimal-digits;
  signed = signed_decimal-short;
  sign = signed_decimal-digits;
}
