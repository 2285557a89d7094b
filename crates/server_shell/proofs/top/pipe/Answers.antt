-- Serves clause runs of `pipe`, and what `serve_pipe` requires.
use Rattle.std.proofs.Common.{subst, inr, IfSome}
use Rattle.core_types.specs.Keys.{Keys}
use Rattle.disk_model.specs.Told.{files_told}
use Rattle.host_core.specs.Replay.{replay}
use Rattle.restart.specs.Restart.{Restarts}
use Rattle.server_shell.proofs.Beginning.{begun_caught_up}
use Rattle.server_shell.proofs.top.pipe.Goals as goal

pub serve_pipe-status-requires : goal.serve_pipe-status-requires
serve_pipe-status-requires g c = record {
  caught_up = begun_caught_up g.D.Dir.told (g.D.Dir.told c.args.dir) c.in-Ok.host c.in-Ok.ensures.begins c.in-Ok.ensures.kept;
}

pub returns-in-Ok-clause-runs : goal.returns-in-Ok-clause-runs
returns-in-Ok-clause-runs g c =
    let e = c.in-Ok.ensures in
    let s = c.serve_pipe-status.ensures in
    inr (record {
      begun = c.in-Ok.host;
      ended = c.serve_pipe-status.new.host;
      begins = e.begins;
      crash = e.crash;
      ends = s.ends;
      stands = s.stands;
      keeps = c.close.ensures.kept;
      dir_is = c.close.ensures.dir;
      stands_for = λ runs. subst (λ (keys : Keys). IfSome (files_told (g.D.Dir.told c.close.result)) (λ files. Restarts replay files keys)) (c.close.ensures.kept.runs runs).keys (c.close.ensures.keys runs);
    })
