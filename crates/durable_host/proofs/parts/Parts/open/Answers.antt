-- Serves clauses begins and running of `Parts::open`.
use Rattle.std.proofs.Common.{refl}
use Rattle.durable_host.proofs.Opened.{begun_running, begun_kept}
use Rattle.durable_host.proofs.parts.Parts.open.Goals as goal

pub returns-in-Ok-clause-begins : goal.returns-in-Ok-clause-begins
returns-in-Ok-clause-begins g c = record {
  keys = c.in-Ok.field-0.core.keys;
  opened = c.in-Ok.field-0.opened;
  opens = c.in-Ok.ensures.loaded.opens;
  kept = begun_kept c.in-Ok.field-0 c.new.result (g.D.Dir.told c.args.dir) (g.D.Dir.told c.load.new.dir) c.in-Ok.ensures.loaded c.new.ensures.empty;
  safe = refl;
  held = c.in-Ok.ensures.loaded.core;
  log_length = refl;
  runs = refl;
  ending = refl;
}

pub returns-in-Ok-clause-running : goal.returns-in-Ok-clause-running
returns-in-Ok-clause-running g c =
    begun_running g.D.Dir.told (g.D.Dir.told c.args.dir) _ c.in-Ok.field-0.core.keys c.in-Ok.field-0.opened c.in-Ok.ensures.loaded.opens
    (begun_kept c.in-Ok.field-0 c.new.result (g.D.Dir.told c.args.dir) (g.D.Dir.told c.load.new.dir) c.in-Ok.ensures.loaded c.new.ensures.empty)
    refl c.in-Ok.ensures.loaded.core refl
