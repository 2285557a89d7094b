use Rattle.disk_model.proofs.Stays.{flushed, synced, created, names_synced}
use Rattle.disk_model.proofs.laws.becomes_safe.Goals as goal

pub returns : goal.returns
returns c = record { flushed = flushed; synced = synced; created = created; names_synced = names_synced }
