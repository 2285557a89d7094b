-- The disk at a moment is made again from the calls up to it.
use Rattle.std.proofs.Common.{◌≡◌, take, arith}
use Rattle.std.proofs.lemmas.Grind.{common_steps}
use Rattle.std.proofs.lemmas.List.{take_min}
use Rattle.disk_model.proofs.Copies.{disk_made}
use Rattle.disk_model.proofs.memory.record.Record.disk_at.Goals as goal

pub returns : goal.returns
returns c =
    let deeds = c.self.inside.deeds.items in
    let until : take (c.min-made.result) c.deref.result.now ≡ take c.args.moment deeds = grind (arith, common_steps, take_min c.args.moment deeds) in
    record {
      disk = disk_made c.args.self.now c.args.moment c.self.inside.began deeds (take (c.min-made.result) c.deref.result.now) c.in_ok-disk.disk c.replay_all.new.disk
          c.self.view_is c.in_ok-disk.ensures.settled c.in_ok-replay_all.ensures.changed until;
    }
