use Rattle.byte_text.proofs.Names.{by_bytes, upper_again, upper-length}
use Rattle.byte_text.proofs.laws.names_by_bytes.Goals as goal

pub returns : goal.returns
returns c = record { bytes = by_bytes; again = upper_again; length = upper-length }
