-- Serves the clauses of `serve_request`.
use Rattle.std.proofs.Common.{◌∙◌}
use Rattle.std.proofs.lemmas.Result.{err_from_is_err_and}
use Rattle.server_shell.proofs.ServedRequests.{all_served, arrival_breaks, flush_breaks, handed_safe, no_arrival, no_tick, part_broken, part_handed, request_made, request_stays, tick_breaks}
use Rattle.server_shell.proofs.serving.serve_request.Goals as goal

pub returns-in_err-serve_event-clause-part : goal.returns-in_err-serve_event-clause-part
returns-in_err-serve_event-clause-part g c =
    let p = err_from_is_err_and c.from_residual.result c.from_residual.ensures.1 in
    let moment = c.now-moment.result in
    let broken = tick_breaks g.D.Dir.told c.args.host.now c.serve_event.new.host c.args.host.now c.args.host.now moment c.args.words c.in_err-serve_event.ensures.broken in
    rw (p.1) (
      moment,
      c.now-moment.ensures.given,
      part_broken g.D.Dir.told _ c.args.host.now c.serve_event.new.host (g.K.Sink.told c.args.sink.now).got c.requires.caught_up broken,
    )

pub returns-in_err-serve_event-2-clause-part : goal.returns-in_err-serve_event-2-clause-part
returns-in_err-serve_event-2-clause-part g c =
    let p = err_from_is_err_and c.from_residual-in_err-serve_event-2.result c.from_residual-in_err-serve_event-2.ensures.1 in
    let moment = c.now-moment.result in
    let broken = arrival_breaks g.D.Dir.told c.args.host.now c.serve_event.new.host c.serve_event-2.new.host c.args.host.now moment c.args.words
    c.in_ok-serve_event.ensures.made c.in_err-serve_event-2.ensures.broken in
    rw (p.1) (
      moment,
      c.now-moment.ensures.given,
      part_broken g.D.Dir.told _ c.args.host.now c.serve_event-2.new.host (g.K.Sink.told c.args.sink.now).got c.requires.caught_up broken,
    )

pub returns-in_err-flush-clause-part : goal.returns-in_err-flush-clause-part
returns-in_err-flush-clause-part g c =
    let p = err_from_is_err_and c.from_residual-in_err-flush.result c.from_residual-in_err-flush.ensures.1 in
    let moment = c.now-moment.result in
    let broken = flush_breaks g.D.Dir.told c.args.host.now c.serve_event.new.host c.serve_event-2.new.host c.flush.new.host moment c.args.words
    c.in_ok-serve_event.ensures.made c.in_ok-serve_event-2.ensures.made c.in_err-flush.ensures.broken in
    rw (p.1) (
      moment,
      c.now-moment.ensures.given,
      part_broken g.D.Dir.told _ c.args.host.now c.flush.new.host (g.K.Sink.told c.args.sink.now).got c.requires.caught_up broken,
    )

pub returns-in_err-hand_out-clause-part : goal.returns-in_err-hand_out-clause-part
returns-in_err-hand_out-clause-part g c =
    let p = err_from_is_err_and c.from_residual-in_err-hand_out.result c.from_residual-in_err-hand_out.ensures.1 in
    let moment = c.now-moment.result in
    let f = c.in_ok-flush.ensures.flushed in
    let made = request_made g.D.Dir.told c.args.host.now c.serve_event.new.host c.serve_event-2.new.host c.flush.new.host moment c.args.words
    c.in_ok-serve_event.ensures.made c.in_ok-serve_event-2.ensures.made f.made in
    let taken = f.taken ∙ c.in_ok-serve_event-2.ensures.taken (no_arrival c.args.words) ∙ c.in_ok-serve_event.ensures.taken (no_tick moment) in
    rw (p.1) (
      moment,
      c.now-moment.ensures.given,
      part_handed g.D.Dir.told _ c.args.host.now c.flush.new.host c.hand_out.new.host c.requires.caught_up (request_stays moment c.args.words) made taken f.opened f.safe
          (g.K.Sink.told c.args.sink.now).got (g.K.Sink.told c.hand_out.new.sink).got c.in_err-hand_out.ensures.part,
    )

pub returns-in_err-hand_out-clause-stands : goal.returns-in_err-hand_out-clause-stands
returns-in_err-hand_out-clause-stands g c =
    let p = err_from_is_err_and c.from_residual-in_err-hand_out.result c.from_residual-in_err-hand_out.ensures.1 in
    let moment = c.now-moment.result in
    let f = c.in_ok-flush.ensures.flushed in
    let made = request_made g.D.Dir.told c.args.host.now c.serve_event.new.host c.serve_event-2.new.host c.flush.new.host moment c.args.words
    c.in_ok-serve_event.ensures.made c.in_ok-serve_event-2.ensures.made f.made in
    let taken = f.taken ∙ c.in_ok-serve_event-2.ensures.taken (no_arrival c.args.words) ∙ c.in_ok-serve_event.ensures.taken (no_tick moment) in
    rw (p.1, p.2) (handed_safe g.D.Dir.told _ c.args.host.now c.flush.new.host c.hand_out.new.host c.requires.caught_up (request_stays moment c.args.words) made taken f.opened f.safe
    (g.K.Sink.told c.args.sink.now).got (g.K.Sink.told c.hand_out.new.sink).got c.in_err-hand_out.ensures.part)

pub returns-clause-served : goal.returns-clause-served
returns-clause-served g c =
    let moment = c.now-moment.result in
    let f = c.in_ok-flush.ensures.flushed in
    let made = request_made g.D.Dir.told c.args.host.now c.serve_event.new.host c.serve_event-2.new.host c.flush.new.host moment c.args.words
    c.in_ok-serve_event.ensures.made c.in_ok-serve_event-2.ensures.made f.made in
    let taken = f.taken ∙ c.in_ok-serve_event-2.ensures.taken (no_arrival c.args.words) ∙ c.in_ok-serve_event.ensures.taken (no_tick moment) in (
      moment,
      c.now-moment.ensures.given,
      all_served g.D.Dir.told _ c.args.host.now c.flush.new.host c.hand_out.new.host c.requires.caught_up (request_stays moment c.args.words) made taken f.opened f.safe
          (g.K.Sink.told c.args.sink.now).got (g.K.Sink.told c.hand_out.new.sink).got c.in_ok-hand_out.ensures.all,
    )
