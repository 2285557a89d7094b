use Rattle.resp_codec.proofs.OneReading.{fault_one}
use Rattle.resp_codec.proofs.Spans.{spans_one, span_no_fault}
use Rattle.resp_codec.proofs.laws.one_spelling.Goals as goal

pub returns : goal.returns
returns c = record { span = spans_one; bad = fault_one; apart = span_no_fault }
