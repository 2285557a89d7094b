use Rattle.disk_model.proofs.Stays.{elsewhere, elsewhere_up_to, appended, append_failed, sync_failed}
use Rattle.disk_model.proofs.laws.safe_name_stays.Goals as goal

pub returns : goal.returns
returns c = record { elsewhere = elsewhere; elsewhere_up_to = elsewhere_up_to; appended = appended; append_failed = append_failed; sync_failed = sync_failed }
