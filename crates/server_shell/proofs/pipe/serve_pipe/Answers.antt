-- Serves clause ends of `serve_pipe`.
use Rattle.std.proofs.Common.{◌≡◌, refl, sym, ap, subst, ◌∙◌}
use Rattle.server_shell.specs.Faults.{end_of}
use Rattle.server_shell.specs.Pipe.{SourceEnds}
use Rattle.server_shell.specs.Pipe.{outside_of}
use Rattle.server_shell.proofs.ComingAndGoing.{goes_behind, joined, no_comer, stays_behind, stops_behind, stops_first}
use Rattle.server_shell.proofs.pipe.serve_pipe.Goals as goal
use Rattle.server_shell.proofs.pipe.serve_pipe.Goals.{in-Ok, in-Err-serve_source}

pub returns-in-Err-clause-ends : goal.returns-in-Err-clause-ends
returns-in-Err-clause-ends g c =
    stops_first g.D.Dir.told c.args.host.now c.serve_event.new.host c.requires.caught_up _ (g.S.Source.told c.args.source.now).left (g.C.Clock.told c.args.clock.now) (g.K.Sink.told c.args.sink.now).got refl
    c.in-Err.status c.in-Err.ensures.why c.in-Err.ensures.broken

pub serve_source-requires : goal.serve_source-requires
serve_source-requires g c =
    let e = c.in_default.ensures in
    record {
      caught_up = (joined g.D.Dir.told c.args.host.now c.serve_event.new.host (g.K.Sink.told c.args.sink.now).got c.requires.caught_up e.made (e.taken no_comer)).caught_up;
    }

pub returns-then-not-is_at_end_of_stream-clause-ends : goal.returns-then-not-is_at_end_of_stream-clause-ends
returns-then-not-is_at_end_of_stream-clause-ends g c =
    let e = c.in_default.ensures in
    let come = joined g.D.Dir.told c.args.host.now c.serve_event.new.host (g.K.Sink.told c.args.sink.now).got c.requires.caught_up e.made (e.taken no_comer) in
    let o = outside_of (g.S.Source.told c.args.source.now) (g.S.Source.told c.serve_source.new.source) (g.C.Clock.told c.args.clock.now) (g.C.Clock.told c.serve_source.new.clock) (g.K.Sink.told c.args.sink.now) (g.K.Sink.told c.serve_source.new.sink) in
    let same : end_of c.serve_source.result ≡ c.match-serve_source.end =
    elim c.match-serve_source.branch [ in-Ok w ↦ ap end_of w.in-Ok.is ∙ sym w.end-is | in-Err-serve_source w ↦ ap end_of w.in-Err-serve_source.is ∙ sym w.end-is ] in
    stays_behind g.D.Dir.told c.args.host.now c.serve_event.new.host c.serve_source.new.host o come c.match-serve_source.end
    (subst (λ end. SourceEnds end g.D.Dir.told c.serve_event.new.host c.serve_source.new.host o) same c.serve_source.ensures.ends)
    (sym c.is_at_end_of_stream.ensures ∙ c.if-not-is_at_end_of_stream.true)

pub returns-in-Ok-serve_event-clause-ends : goal.returns-in-Ok-serve_event-clause-ends
returns-in-Ok-serve_event-clause-ends g c =
    let e = c.in_default.ensures in
    let come = joined g.D.Dir.told c.args.host.now c.serve_event.new.host (g.K.Sink.told c.args.sink.now).got c.requires.caught_up e.made (e.taken no_comer) in
    let o = outside_of (g.S.Source.told c.args.source.now) (g.S.Source.told c.serve_source.new.source) (g.C.Clock.told c.args.clock.now) (g.C.Clock.told c.serve_source.new.clock) (g.K.Sink.told c.args.sink.now) (g.K.Sink.told c.serve_source.new.sink) in
    let same : end_of c.serve_source.result ≡ c.match-serve_source.end =
    elim c.match-serve_source.branch [ in-Ok w ↦ ap end_of w.in-Ok.is ∙ sym w.end-is | in-Err-serve_source w ↦ ap end_of w.in-Err-serve_source.is ∙ sym w.end-is ] in
    goes_behind g.D.Dir.told c.args.host.now c.serve_event.new.host c.serve_source.new.host o come c.match-serve_source.end
    (subst (λ end. SourceEnds end g.D.Dir.told c.serve_event.new.host c.serve_source.new.host o) same c.serve_source.ensures.ends)
    c.serve_event-2.new.host (sym c.is_at_end_of_stream.ensures ∙ c.if-not-is_at_end_of_stream.false) c.in-Ok-serve_event.ensures.made

pub returns-in-Err-serve_event-clause-ends : goal.returns-in-Err-serve_event-clause-ends
returns-in-Err-serve_event-clause-ends g c =
    let e = c.in_default.ensures in
    let come = joined g.D.Dir.told c.args.host.now c.serve_event.new.host (g.K.Sink.told c.args.sink.now).got c.requires.caught_up e.made (e.taken no_comer) in
    let o = outside_of (g.S.Source.told c.args.source.now) (g.S.Source.told c.serve_source.new.source) (g.C.Clock.told c.args.clock.now) (g.C.Clock.told c.serve_source.new.clock) (g.K.Sink.told c.args.sink.now) (g.K.Sink.told c.serve_source.new.sink) in
    let same : end_of c.serve_source.result ≡ c.match-serve_source.end =
    elim c.match-serve_source.branch [ in-Ok w ↦ ap end_of w.in-Ok.is ∙ sym w.end-is | in-Err-serve_source w ↦ ap end_of w.in-Err-serve_source.is ∙ sym w.end-is ] in
    stops_behind g.D.Dir.told c.args.host.now c.serve_event.new.host c.serve_source.new.host o come c.match-serve_source.end
    (subst (λ end. SourceEnds end g.D.Dir.told c.serve_event.new.host c.serve_source.new.host o) same c.serve_source.ensures.ends)
    c.serve_event-2.new.host (sym c.is_at_end_of_stream.ensures ∙ c.if-not-is_at_end_of_stream.false) c.in-Err-serve_event.status c.in-Err-serve_event.ensures.why c.in-Err-serve_event.ensures.broken
