use Rattle.byte_text.proofs.Decimals.{u64_of-decimal, u64_of-only, i64_of-decimal, i64_of-only}
use Rattle.byte_text.proofs.laws.decimals_are_canonical.Goals as goal

pub returns : goal.returns
returns c = record {
  unsigned = u64_of-decimal;
  unsigned_only = u64_of-only;
  signed = i64_of-decimal;
  signed_only = i64_of-only;
}
