-- Serves clauses well, wrong and crash of `Parts::log`.
use Rattle.std.proofs.Common.{refl, ap, ◌∙◌, ◌+◌, min, arith}
use Rattle.std.proofs.lemmas.Result.{err_from_is_err_and}
use Rattle.durable_host.specs.inner.Running.{kept_of}
use Rattle.durable_host.proofs.Ends.{asked_failed, asked_well, joined_core, same_kept, well_append, wrong_append, wrong_memory}
use Rattle.durable_host.proofs.Running.{asked_nothing, log_there}
use Rattle.durable_host.proofs.parts.Parts.log.Goals as goal

pub compute-requires-clause-joined : goal.compute-requires-clause-joined
compute-requires-clause-joined g c = joined_core (kept_of c.args.self.now) c.args.self.now.safe c.args.self.now.core c.requires.runs.history c.requires.runs.core

pub returns-in_err-computed-clause-wrong : goal.returns-in_err-computed-clause-wrong
returns-in_err-computed-clause-wrong g c =
    let p = err_from_is_err_and c.from_residual.result c.from_residual.ensures.1 in
    rw (p.1, p.2, c.in_err-computed.ensures.memory) (wrong_memory g.D.Dir.told c.args.self.now _ c.requires.runs c.args.event
    (same_kept (kept_of c.args.self.now) c.compute.new.events c.in_err-computed.ensures.err) refl refl refl c.compute.ensures.places c.compute.ensures.clients)

pub returns-in_err-computed-clause-crash : goal.returns-in_err-computed-clause-crash
returns-in_err-computed-clause-crash g c =
    asked_nothing (kept_of c.args.self.now) c.args.self.now.safe (g.D.Dir.told c.args.self.now.dir) (g.D.Dir.told c.args.self.now.dir) c.requires.runs.history c.requires.runs.log c.args.event refl

pub append-requires : goal.append-requires
append-requires g c = record {
  there = log_there (kept_of c.args.self.now) c.args.self.now.safe (g.D.Dir.told c.args.self.now.dir) (g.D.Dir.told c.args.self.now.dir) c.requires.runs.history c.requires.runs.log;
}

pub returns-in_err-append-clause-wrong : goal.returns-in_err-append-clause-wrong
returns-in_err-append-clause-wrong g c =
    let p = err_from_is_err_and c.from_residual-in_err-append.result c.from_residual-in_err-append.ensures.1 in
    rw (p.1, p.2) (wrong_append g.D.Dir.told c.args.self.now _ c.requires.runs c.args.event c.requires.logged c.requires.counts c.in_ok-computed.computed c.in_ok-computed.ensures.computed
    (same_kept (kept_of c.args.self.now) c.compute.new.events c.in_ok-computed.ensures.events) refl c.compute.ensures.places refl
    (rw (← c.as_slice.ensures.bytes) c.in_err-append.ensures.failed))

pub returns-in_err-append-clause-crash : goal.returns-in_err-append-clause-crash
returns-in_err-append-clause-crash g c =
    asked_failed g.D.Dir.told c.args.self.now (record c.args.self.now { core = c.compute.new.core; dir = c.append.new.dir; events = c.compute.new.events }) c.requires.runs c.args.event c.requires.logged
    c.requires.counts c.in_ok-computed.computed c.in_ok-computed.ensures.computed (same_kept (kept_of c.args.self.now) c.compute.new.events c.in_ok-computed.ensures.events) refl c.compute.ensures.places
    (rw (← c.as_slice.ensures.bytes) c.in_err-append.ensures.failed)

pub returns-clause-well : goal.returns-clause-well
returns-clause-well g c =
    well_append g.D.Dir.told c.args.self.now _ c.requires.runs c.args.event c.requires.logged c.requires.counts c.in_ok-computed.computed c.in_ok-computed.ensures.computed
    (same_kept (kept_of c.args.self.now) c.compute.new.events c.in_ok-computed.ensures.events) refl c.compute.ensures.places
    (rw (← c.as_slice.ensures.bytes) c.in_ok-append.ensures.done) c.in_ok-append.ensures.small (omega arith)
    (c.saturating_add-self.ensures ∙ ap (λ n. min (c.args.self.now.log_length + n) 18446744073709551615) c.len.ensures.length)

pub returns-clause-crash : goal.returns-clause-crash
returns-clause-crash g c =
    asked_well g.D.Dir.told c.args.self.now (record c.args.self.now { core = c.compute.new.core; dir = c.append.new.dir; events = c.compute.new.events }) c.requires.runs c.args.event c.requires.logged
    c.requires.counts c.in_ok-computed.computed c.in_ok-computed.ensures.computed (same_kept (kept_of c.args.self.now) c.compute.new.events c.in_ok-computed.ensures.events) refl c.compute.ensures.places
    (rw (← c.as_slice.ensures.bytes) c.in_ok-append.ensures.done)
