use Rattle.std.proofs.Common.{rules}
use Rattle.disk_model.proofs.Copies.{chosen_made}
use Rattle.disk_model.proofs.memory.disk.Disk.chosen.Goals as goal

pub returns : goal.returns
returns c = record {
  chosen = chosen_made c.args.choice c.args.self.now c.names_after-names.result c.get-log.result c.get-log_temp.result c.get-dump.result c.get-dump_temp.result c.of.result
      c.names_after-names.ensures.names
      c.get-log.ensures.number
      c.get-log_temp.ensures.number
      c.get-dump.ensures.number
      c.get-dump_temp.ensures.number
      (search rules)
      (search rules)
      (search rules)
      (search rules);
}
