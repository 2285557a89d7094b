use Rattle.disk_model.specs.Told.{files_told}
use Rattle.restart.proofs.OpenLogs.{found_finds}
use Rattle.restart.proofs.opening.look.Goals as goal

pub returns-clause-found : goal.returns-clause-found
returns-clause-found g c =
    rw c.opened.ensures.opened (found_finds g.R.Replayer.meaning c.in_ok-found.found (g.R.Replayer.keys c.find.new.replayer) (files_told (g.D.Dir.told c.args.dir.now)) c.in_ok-found.ensures.there c.in_ok-found.ensures.keys)
