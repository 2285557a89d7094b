use Rattle.disk_model.proofs.Safe.{safe_leaves, safe_one, safe_reads, safe_up_to}
use Rattle.disk_model.proofs.laws.safe_names.Goals as goal

pub returns : goal.returns
returns c = record { leaves = safe_leaves; one_outcome = safe_one; reads = safe_reads; nothing_added = safe_up_to }
