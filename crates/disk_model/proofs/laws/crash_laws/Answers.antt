use Rattle.disk_model.proofs.Images.{reads_leaves}
use Rattle.disk_model.proofs.Settled.{one_outcome}
use Rattle.disk_model.proofs.Added.{sync_takes, names_sync_takes, left_however}
use Rattle.disk_model.proofs.laws.crash_laws.Goals as goal

pub returns : goal.returns
returns c = record { reads = reads_leaves; one_outcome = one_outcome; sync_takes_away = sync_takes; names_sync_takes_away = names_sync_takes; however = left_however }
