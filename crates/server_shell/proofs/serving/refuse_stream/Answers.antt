-- Serves the clauses of `refuse_stream`.
use Rattle.std.proofs.Common.{◌∙◌}
use Rattle.std.proofs.lemmas.Result.{err_from_is_err_and}
use Rattle.server_shell.proofs.ServedRequests.{all_served, bad_breaks, bad_flush_breaks, handed_safe, no_refusal, part_broken, part_handed, refusal_made, refusal_stays}
use Rattle.server_shell.proofs.serving.refuse_stream.Goals as goal

pub returns-in_err-serve_event-clause-part : goal.returns-in_err-serve_event-clause-part
returns-in_err-serve_event-clause-part g c offset =
    let p = err_from_is_err_and c.from_residual.result c.from_residual.ensures.1 in
    let broken = bad_breaks g.D.Dir.told c.args.host.now c.serve_event.new.host c.args.host.now c.args.kind c.in_err-serve_event.ensures.broken in
    rw (p.1) (part_broken g.D.Dir.told _ c.args.host.now c.serve_event.new.host (g.K.Sink.told c.args.sink.now).got c.requires.caught_up broken)

pub returns-in_err-flush-clause-part : goal.returns-in_err-flush-clause-part
returns-in_err-flush-clause-part g c offset =
    let p = err_from_is_err_and c.from_residual-in_err-flush.result c.from_residual-in_err-flush.ensures.1 in
    let broken = bad_flush_breaks g.D.Dir.told c.args.host.now c.serve_event.new.host c.flush.new.host c.args.kind c.in_ok-serve_event.ensures.made c.in_err-flush.ensures.broken in
    rw (p.1) (part_broken g.D.Dir.told _ c.args.host.now c.flush.new.host (g.K.Sink.told c.args.sink.now).got c.requires.caught_up broken)

pub returns-in_err-hand_out-clause-part : goal.returns-in_err-hand_out-clause-part
returns-in_err-hand_out-clause-part g c offset =
    let p = err_from_is_err_and c.from_residual-in_err-hand_out.result c.from_residual-in_err-hand_out.ensures.1 in
    let f = c.in_ok-flush.ensures.flushed in
    let made = refusal_made g.D.Dir.told c.args.host.now c.serve_event.new.host c.flush.new.host c.args.kind c.in_ok-serve_event.ensures.made f.made in
    rw (p.1) (part_handed g.D.Dir.told _ c.args.host.now c.flush.new.host c.hand_out.new.host c.requires.caught_up (refusal_stays c.args.kind) made
    (f.taken ∙ c.in_ok-serve_event.ensures.taken (no_refusal c.args.kind)) f.opened f.safe
    (g.K.Sink.told c.args.sink.now).got (g.K.Sink.told c.hand_out.new.sink).got c.in_err-hand_out.ensures.part)

pub returns-in_err-hand_out-clause-stands : goal.returns-in_err-hand_out-clause-stands
returns-in_err-hand_out-clause-stands g c =
    let p = err_from_is_err_and c.from_residual-in_err-hand_out.result c.from_residual-in_err-hand_out.ensures.1 in
    let f = c.in_ok-flush.ensures.flushed in
    let made = refusal_made g.D.Dir.told c.args.host.now c.serve_event.new.host c.flush.new.host c.args.kind c.in_ok-serve_event.ensures.made f.made in
    rw (p.1, p.2) (handed_safe g.D.Dir.told _ c.args.host.now c.flush.new.host c.hand_out.new.host c.requires.caught_up (refusal_stays c.args.kind) made
    (f.taken ∙ c.in_ok-serve_event.ensures.taken (no_refusal c.args.kind)) f.opened f.safe
    (g.K.Sink.told c.args.sink.now).got (g.K.Sink.told c.hand_out.new.sink).got c.in_err-hand_out.ensures.part)

pub returns-clause-served : goal.returns-clause-served
returns-clause-served g c offset =
    let f = c.in_ok-flush.ensures.flushed in
    let made = refusal_made g.D.Dir.told c.args.host.now c.serve_event.new.host c.flush.new.host c.args.kind c.in_ok-serve_event.ensures.made f.made in
    all_served g.D.Dir.told _ c.args.host.now c.flush.new.host c.hand_out.new.host c.requires.caught_up (refusal_stays c.args.kind) made
    (f.taken ∙ c.in_ok-serve_event.ensures.taken (no_refusal c.args.kind)) f.opened f.safe
    (g.K.Sink.told c.args.sink.now).got (g.K.Sink.told c.hand_out.new.sink).got c.in_ok-hand_out.ensures.all
