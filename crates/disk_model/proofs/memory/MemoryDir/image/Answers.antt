-- The directory that a choice gives is one that a crash may leave.
use Rattle.std.proofs.Common.{◌≡◌, rules}
use Rattle.disk_model.specs.Choices.{chosen}
use Rattle.disk_model.specs.Past.{files_now}
use Rattle.disk_model.proofs.Copies.{image_allowed}
use Rattle.disk_model.proofs.memory.MemoryDir.image.Goals as goal

pub returns-clause-allowed : goal.returns-clause-allowed
returns-clause-allowed c =
    let files : files_now c.in_ok-record.record ≡ chosen c.args.choice c.args.self.now.past = search rules in
    image_allowed c.args.choice c.args.self.now.past (files_now c.in_ok-record.record) files
