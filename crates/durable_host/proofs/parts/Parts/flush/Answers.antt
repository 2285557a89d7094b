-- Serves clauses well, wrong and crash of `Parts::flush`.
use Rattle.std.proofs.Common.{refl, ap, ◌∙◌, inl, arith, length, length-append, [], ◌∷◌}
use Rattle.std.proofs.lemmas.Result.{err_from_is_err_and}
use Rattle.core_types.specs.declared.event.Event.TheVariants as event
use Rattle.disk_model.specs.Past.{Call}
use Rattle.disk_model.specs.declared.file_name.FileName.TheVariants.{Log}
use Rattle.disk_model.proofs.Failures.{was_done, was_failed}
use Rattle.durable_host.specs.inner.Running.{kept_of}
use Rattle.durable_host.proofs.Ends.{popped, same_kept, well_flush, wrong_flush, wrong_memory}
use Rattle.durable_host.proofs.Running.{asked_flush, asked_nothing, log_there}
use Rattle.durable_host.proofs.Streams.{same_places}
use Rattle.durable_host.proofs.parts.Parts.flush.Goals as goal

pub returns-in_err-push-clause-wrong : goal.returns-in_err-push-clause-wrong
returns-in_err-push-clause-wrong g c =
    let p = err_from_is_err_and c.from_residual.result c.from_residual.ensures.1 in
    rw (p.1, p.2) (wrong_memory g.D.Dir.told c.args.self.now _ c.requires.runs event.Flush (same_kept (kept_of c.args.self.now) c.push.new.self c.in_err-push.ensures.err) refl refl refl
    (same_places c.args.self.now.core.register) (inl refl))

pub returns-in_err-push-clause-crash : goal.returns-in_err-push-clause-crash
returns-in_err-push-clause-crash g c =
    asked_nothing (kept_of c.args.self.now) c.args.self.now.safe (g.D.Dir.told c.args.self.now.dir) (g.D.Dir.told c.args.self.now.dir) c.requires.runs.history c.requires.runs.log event.Flush refl

pub sync-requires : goal.sync-requires
sync-requires g c = record {
  there = log_there (kept_of c.args.self.now) c.args.self.now.safe (g.D.Dir.told c.args.self.now.dir) (g.D.Dir.told c.args.self.now.dir) c.requires.runs.history c.requires.runs.log;
}

pub returns-in-Err-clause-wrong : goal.returns-in-Err-clause-wrong
returns-in-Err-clause-wrong g c =
    rw c.from.ensures (wrong_flush g.D.Dir.told c.args.self.now _ c.requires.runs
    (same_kept (kept_of c.args.self.now) c.pop.new.self (popped c.args.self.now.events c.push.new.self c.pop.new.self event.Flush c.pop.result c.in_ok-push.ensures.ok c.pop.ensures.items c.pop.ensures.none))
    refl refl refl c.in-Err.ensures.failed)

pub returns-in-Err-clause-crash : goal.returns-in-Err-clause-crash
returns-in-Err-clause-crash g c =
    asked_flush (kept_of c.args.self.now) c.args.self.now.safe (g.D.Dir.told c.args.self.now.dir) (g.D.Dir.told c.sync.new.dir) c.requires.runs.history c.requires.runs.log event.Flush
    (was_failed (Call.Sync Log) (g.D.Dir.told c.args.self.now.dir) (g.D.Dir.told c.sync.new.dir) c.in-Err.ensures.failed)

pub returns-clause-well : goal.returns-clause-well
returns-clause-well g c =
    well_flush g.D.Dir.told c.args.self.now _ c.requires.runs (same_kept (kept_of c.args.self.now) c.push.new.self c.in_ok-push.ensures.ok) c.requires.counts
    (c.saturating_add-self.ensures ∙ omega (arith, c.len.ensures.length, ap length c.in_ok-push.ensures.ok, length-append c.args.self.now.events (event.Flush ∷ []), c.requires.counts))
    c.flush.ensures.freed refl c.in_default.ensures.done

pub returns-clause-crash : goal.returns-clause-crash
returns-clause-crash g c =
    asked_flush (kept_of c.args.self.now) c.args.self.now.safe (g.D.Dir.told c.args.self.now.dir) (g.D.Dir.told c.sync.new.dir) c.requires.runs.history c.requires.runs.log event.Flush
    (was_done (Call.Sync Log) (g.D.Dir.told c.args.self.now.dir) (g.D.Dir.told c.sync.new.dir) c.in_default.ensures.done)
