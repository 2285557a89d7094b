-- Serves clause ends of `serve_source`.
use Rattle.std.proofs.Common.{◌≡◌, ◌<◌, refl, sym, ap, subst, ◌∙◌, ℕ, [], ◌++◌, Ok, length, length-append, take, arith}
use Rattle.std.specs.Io.KnownBytes.{Consumes}
use Rattle.std.proofs.lemmas.List.{length-take-le}
use Rattle.std.proofs.lemmas.Result.{err_from_is_err_and}
use Rattle.resp_codec.proofs.WholeReadings.{feed_on}
use Rattle.server_shell.specs.Faults.{Faults}
use Rattle.server_shell.proofs.Progress.{begins, ends_at_end, fed, one_more, quit, refuses, served_stop, shorter, source_stops, stops_between, stops_here, stops_serving, waited, waits_on}
use Rattle.server_shell.proofs.pipe.serve_source.Goals as goal

pub serving-init : goal.serving-init
serving-init g c = record {
  some = omega arith;
  full = omega arith;
  progress = begins g.D.Dir.told c.args.host.now (g.S.Source.told c.args.source.now).left (g.C.Clock.told c.args.clock.now) (g.K.Sink.told c.args.sink.now).got c.new-reader.result c.requires.caught_up
      c.new-reader.ensures.passed c.new-reader.ensures.rest;
  dir_kept = refl;
  source_kept = refl;
  sink_kept = refl;
}

pub serve_request-requires-clause-request : goal.serve_request-requires-clause-request
serve_request-requires-clause-request g c =
    let t = c.in_ok-words.ensures.request c.in-Request.words (ap Ok c.in-Request.is) in
    t.spells.0

pub serving-smaller-else-quits : goal.serving-smaller-else-quits
serving-smaller-else-quits g c =
    let t = c.in_ok-words.ensures.request c.in-Request.words (ap Ok c.in-Request.is) in
    let less : length c.next.new.self.rest < length c.serving.reader.rest = shorter c.serving.reader c.next.new.self c.in-Request.words t in
    omega (arith, less)

pub returns-in_err-words-clause-ends : goal.returns-in_err-words-clause-ends
returns-in_err-words-clause-ends g c =
    let p = err_from_is_err_and c.from_residual.result c.from_residual.ensures.1 in
    rw (p.1, p.2) (stops_here g.D.Dir.told c.args.host.now (g.S.Source.told c.args.source.now).left (g.C.Clock.told c.args.clock.now) (g.K.Sink.told c.args.sink.now).got c.serving.host c.serving.reader c.serving.taken (g.S.Source.told c.serving.source).left (g.C.Clock.told c.serving.clock) (g.K.Sink.told c.serving.sink).got c.serving.invariant.progress)

pub returns-in_err-serve_request-in-Request-clause-ends : goal.returns-in_err-serve_request-in-Request-clause-ends
returns-in_err-serve_request-in-Request-clause-ends g c =
    let p = err_from_is_err_and c.from_residual-in_err-serve_request-in-Request.result c.from_residual-in_err-serve_request-in-Request.ensures.1 in
    let t = c.in_ok-words.ensures.request c.in-Request.words (ap Ok c.in-Request.is) in
    let e = c.in_err-serve_request-in-Request.ensures in
    rw (p.1, p.2) (served_stop g.D.Dir.told c.args.host.now c.serve_request.new.host _ c.in_err-serve_request-in-Request.field-0.0 e.why
    (stops_serving g.D.Dir.told c.args.host.now (g.S.Source.told c.args.source.now).left (g.C.Clock.told c.args.clock.now) (g.K.Sink.told c.args.sink.now).got c.serving.host c.serving.reader c.serving.taken (g.S.Source.told c.serving.source).left (g.C.Clock.told c.serving.clock) (g.K.Sink.told c.serving.sink).got c.serving.invariant.progress
    c.next.new.self c.in-Request.words t c.serve_request.new.host (g.C.Clock.told c.serve_request.new.clock) (g.K.Sink.told c.serve_request.new.sink).got e.part))

pub returns-then-quits-clause-ends : goal.returns-then-quits-clause-ends
returns-then-quits-clause-ends g c =
    let t = c.in_ok-words.ensures.request c.in-Request.words (ap Ok c.in-Request.is) in
    quit g.D.Dir.told c.args.host.now (g.S.Source.told c.args.source.now).left (g.C.Clock.told c.args.clock.now) (g.K.Sink.told c.args.sink.now).got c.serving.host c.serving.reader c.serving.taken (g.S.Source.told c.serving.source).left (g.C.Clock.told c.serving.clock) (g.K.Sink.told c.serving.sink).got c.serving.invariant.progress
    c.next.new.self c.in-Request.words t c.serve_request.new.host (g.C.Clock.told c.serve_request.new.clock) (g.K.Sink.told c.serve_request.new.sink).got c.in_ok-serve_request-in-Request.ensures.served
    (sym c.is_quit-quits.ensures ∙ c.if-quits.true)

pub serving-preserved-else-quits : goal.serving-preserved-else-quits
serving-preserved-else-quits g c =
    let i = c.serving.invariant in
    let t = c.in_ok-words.ensures.request c.in-Request.words (ap Ok c.in-Request.is) in
    let e = c.in_ok-serve_request-in-Request.ensures in
    record {
      some = i.some;
      full = i.full;
      progress = one_more g.D.Dir.told c.args.host.now (g.S.Source.told c.args.source.now).left (g.C.Clock.told c.args.clock.now) (g.K.Sink.told c.args.sink.now).got c.serving.host c.serving.reader c.serving.taken (g.S.Source.told c.serving.source).left (g.C.Clock.told c.serving.clock) (g.K.Sink.told c.serving.sink).got c.serving.invariant.progress
          c.next.new.self c.in-Request.words t c.serve_request.new.host (g.C.Clock.told c.serve_request.new.clock) (g.K.Sink.told c.serve_request.new.sink).got e.served (sym c.is_quit-quits.ensures ∙ c.if-quits.false);
      dir_kept = ap (λ (f : Faults). f.dir) e.counts ∙ i.dir_kept;
      source_kept = i.source_kept;
      sink_kept = ap (λ (f : Faults). f.sink) e.counts ∙ i.sink_kept;
    }

pub returns-in_err-count-in-More-clause-ends : goal.returns-in_err-count-in-More-clause-ends
returns-in_err-count-in-More-clause-ends g c =
    let p = err_from_is_err_and c.from_residual-in_err-count-in-More.result c.from_residual-in_err-count-in-More.ensures.1 in
    let w = c.in_ok-words.ensures.more (ap Ok c.in-More.is) in
    rw (p.1, p.2) (source_stops g.D.Dir.told c.args.host.now (g.S.Source.told c.args.source.now).left (g.C.Clock.told c.args.clock.now) (g.K.Sink.told c.args.sink.now).got c.serving.host c.serving.reader c.serving.taken (g.S.Source.told c.serving.source).left (g.C.Clock.told c.serving.clock) (g.K.Sink.told c.serving.sink).got c.serving.invariant.progress
    c.next.new.self (g.S.Source.told c.serving.source) (g.S.Source.told c.next_piece.new.source) refl w c.in_err-count-in-More.field-0.0 c.in_err-count-in-More.ensures.stop)

pub returns-then-count-eq0-clause-ends : goal.returns-then-count-eq0-clause-ends
returns-then-count-eq0-clause-ends g c =
    let e = c.in_ok-count-in-More.ensures in
    let w = c.in_ok-words.ensures.more (ap Ok c.in-More.is) in
    let none : Consumes (g.S.Source.told c.serving.source).left (g.S.Source.told c.next_piece.new.source).left [] =
    subst (λ (n : ℕ). Consumes (g.S.Source.told c.serving.source).left (g.S.Source.told c.next_piece.new.source).left (take n c.next_piece.new.buffer)) c.if-count-eq0.true e.bytes in
    ends_at_end g.D.Dir.told c.args.host.now (g.S.Source.told c.args.source.now).left (g.C.Clock.told c.args.clock.now) (g.K.Sink.told c.args.sink.now).got c.serving.host c.serving.reader c.serving.taken (g.S.Source.told c.serving.source).left (g.C.Clock.told c.serving.clock) (g.K.Sink.told c.serving.sink).got c.serving.invariant.progress
    c.next.new.self (g.S.Source.told c.next_piece.new.source).left w none (e.end c.if-count-eq0.true) c.at_end.result c.at_end.ensures.whole c.at_end.ensures.cut

pub returns-in_err-feed-in-More-clause-ends : goal.returns-in_err-feed-in-More-clause-ends
returns-in_err-feed-in-More-clause-ends g c =
    let p = err_from_is_err_and c.from_residual-in_err-feed-in-More.result c.from_residual-in_err-feed-in-More.ensures.1 in
    let e = c.in_ok-count-in-More.ensures in
    let w = c.in_ok-words.ensures.more (ap Ok c.in-More.is) in
    let piece = take c.in_ok-count-in-More.count c.next_piece.new.buffer in
    let size : length c.next_piece.new.buffer ≡ length c.serving.buffer = c.next_piece.auto.buffer in
    let waiting = waits_on g.D.Dir.told c.args.host.now (g.S.Source.told c.args.source.now).left (g.C.Clock.told c.args.clock.now) (g.K.Sink.told c.args.sink.now).got c.serving.host c.serving.reader c.serving.taken (g.S.Source.told c.serving.source).left (g.C.Clock.told c.serving.clock) (g.K.Sink.told c.serving.sink).got c.serving.invariant.progress c.next.new.self w in
    rw (p.1, p.2) (stops_between g.D.Dir.told c.args.host.now (g.S.Source.told c.args.source.now).left (g.C.Clock.told c.args.clock.now) (g.K.Sink.told c.args.sink.now).got c.serving.host c.next.new.self c.serving.taken (g.S.Source.told c.serving.source).left (g.C.Clock.told c.serving.clock) (g.K.Sink.told c.serving.sink).got waiting
    (record { passed = c.next.new.self.passed; rest = c.next.new.self.rest ++ piece }) (g.S.Source.told c.next_piece.new.source).left piece e.bytes
    (feed_on waiting.taken piece waiting.requests c.next.new.self (record { passed = c.next.new.self.passed; rest = c.next.new.self.rest ++ piece }) waiting.read refl refl)
    (omega (arith, waiting.size, e.within, length-take-le c.in_ok-count-in-More.count c.next_piece.new.buffer e.bound, length-append waiting.taken piece))
    (waited g.D.Dir.told c.args.host.now (g.S.Source.told c.args.source.now).left (g.C.Clock.told c.args.clock.now) (g.K.Sink.told c.args.sink.now).got c.serving.host c.serving.reader c.serving.taken (g.S.Source.told c.serving.source).left (g.C.Clock.told c.serving.clock) (g.K.Sink.told c.serving.sink).got c.serving.invariant.progress c.next.new.self w (take c.in_ok-count-in-More.count c.next_piece.new.buffer) (omega (arith, e.bound, c.serving.invariant.full, size, length-take-le c.in_ok-count-in-More.count c.next_piece.new.buffer e.bound))))

pub serving-preserved : goal.serving-preserved
serving-preserved g c =
    let i = c.serving.invariant in
    let e = c.in_ok-count-in-More.ensures in
    let w = c.in_ok-words.ensures.more (ap Ok c.in-More.is) in
    let waiting = waits_on g.D.Dir.told c.args.host.now (g.S.Source.told c.args.source.now).left (g.C.Clock.told c.args.clock.now) (g.K.Sink.told c.args.sink.now).got c.serving.host c.serving.reader c.serving.taken (g.S.Source.told c.serving.source).left (g.C.Clock.told c.serving.clock) (g.K.Sink.told c.serving.sink).got c.serving.invariant.progress c.next.new.self w in
    let size : length c.next_piece.new.buffer ≡ length c.serving.buffer = c.next_piece.auto.buffer in
    record {
      some = omega (arith, i.some, size);
      full = size ∙ i.full;
      progress = fed g.D.Dir.told c.args.host.now (g.S.Source.told c.args.source.now).left (g.C.Clock.told c.args.clock.now) (g.K.Sink.told c.args.sink.now).got c.serving.host c.next.new.self c.serving.taken (g.S.Source.told c.serving.source).left (g.C.Clock.told c.serving.clock) (g.K.Sink.told c.serving.sink).got waiting
          c.feed.new.self (g.S.Source.told c.next_piece.new.source).left (take c.in_ok-count-in-More.count c.next_piece.new.buffer) c.in_ok-count-in-More.count e.bytes c.feed.ensures.passed c.in_ok-feed-in-More.ensures.ok
          (length-take-le c.in_ok-count-in-More.count c.next_piece.new.buffer e.bound) e.within
          (waited g.D.Dir.told c.args.host.now (g.S.Source.told c.args.source.now).left (g.C.Clock.told c.args.clock.now) (g.K.Sink.told c.args.sink.now).got c.serving.host c.serving.reader c.serving.taken (g.S.Source.told c.serving.source).left (g.C.Clock.told c.serving.clock) (g.K.Sink.told c.serving.sink).got c.serving.invariant.progress c.next.new.self w (take c.in_ok-count-in-More.count c.next_piece.new.buffer) (omega (arith, e.bound, c.serving.invariant.full, size, length-take-le c.in_ok-count-in-More.count c.next_piece.new.buffer e.bound)));
      dir_kept = i.dir_kept;
      source_kept = e.kept ∙ i.source_kept;
      sink_kept = i.sink_kept;
    }

pub returns-in-Bad-clause-ends : goal.returns-in-Bad-clause-ends
returns-in-Bad-clause-ends g c =
    let r = c.in_ok-words.ensures.bad c.in-Bad.kind c.in-Bad.offset (ap Ok c.in-Bad.is) in
    refuses g.D.Dir.told c.args.host.now (g.S.Source.told c.args.source.now).left (g.C.Clock.told c.args.clock.now) (g.K.Sink.told c.args.sink.now).got c.serving.host c.serving.reader c.serving.taken (g.S.Source.told c.serving.source).left (g.C.Clock.told c.serving.clock) (g.K.Sink.told c.serving.sink).got c.serving.invariant.progress
    c.next.new.self c.in-Bad.kind c.in-Bad.offset r c.refuse.new.host (g.K.Sink.told c.refuse.new.sink).got c.refuse.result c.refuse.ensures.end
