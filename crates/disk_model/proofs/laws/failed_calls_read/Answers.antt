use Rattle.disk_model.proofs.Failures.{append_failed, cut_failed, create_failed, rename_failed}
use Rattle.disk_model.proofs.laws.failed_calls_read.Goals as goal

pub returns : goal.returns
returns c = record { append = append_failed; cut = cut_failed; create = create_failed; rename = rename_failed }
