use Rattle.disk_model.proofs.Moments.{disk_by_call, left_by_call, left_now, left_in_parts, same_disk, same_images}
use Rattle.disk_model.proofs.laws.runs.Goals as goal

pub returns : goal.returns
returns c = record { disk_by_call = disk_by_call; left_by_call = left_by_call; left_now = left_now; left_in_parts = left_in_parts; same_disk = same_disk; same_images = same_images }
