-- Serves the clauses of `hand_out`.
use Rattle.std.proofs.Common.{◌≡◌, ◌≤◌, refl, sym, ap, subst, ◌∙◌, ◌+◌, [], ◌++◌, append-nil, length, take, arith}
use Rattle.std.proofs.lemmas.List.{length-take-le}
use Rattle.std.proofs.lemmas.Result.{err_from_is_err_and}
use Rattle.std.specs.Io.KnownBytes.{Appends}
use Rattle.std.proofs.KnownBytes.{Appends-nil, Appends-trans}
use Rattle.client_book.specs.Register.{free_of, listed}
use Rattle.server_shell.proofs.ClientTakes.{drained, hands_more, hands_nothing, part_sent, smaller}
use Rattle.server_shell.proofs.handing.hand_out.Goals as goal

pub handing-init : goal.handing-init
handing-init g c = record {
  some = omega arith;
  bytes = [];
  hands = hands_nothing g.D.Dir.told c.args.host.now c.requires.keeps;
  sent = Appends-nil (g.K.Sink.told c.args.sink.now).got;
  kept = refl;
}

pub returns-then-count-eq0-clause-all : goal.returns-then-count-eq0-clause-all
returns-then-count-eq0-clause-all g c =
    let i = c.handing.invariant in
    let t = c.take_out-count.ensures in
    let piece = take c.take_out-count.result c.take_out-count.new.into in
    let size : length c.take_out-count.new.into ≡ length c.handing.piece = c.take_out-count.auto.into in
    let few : c.take_out-count.result ≤ free_of (listed c.handing.host.held.register 1) = omega (arith, t.count) in
    let count : length piece ≡ c.take_out-count.result = length-take-le c.take_out-count.result c.take_out-count.new.into (omega (arith, t.count, size)) in
    let none : piece ≡ [] = ap (λ n. take n c.take_out-count.new.into) c.if-count-eq0.true in
    record {
      bytes = i.bytes ++ piece;
      hands = hands_more g.D.Dir.told c.args.host.now c.handing.host c.take_out-count.new.self i.bytes piece c.take_out-count.result c.requires.one i.hands.keeps i.hands t.kept few count t.moved t.left;
      all = drained g.D.Dir.told c.args.host.now c.handing.host c.take_out-count.new.self i.bytes c.take_out-count.result (length c.handing.piece) i.hands c.if-count-eq0.true i.some t.count t.left;
      sent = subst (Appends (g.K.Sink.told c.args.sink.now).got (g.K.Sink.told c.handing.sink).got) (sym (ap (λ rest. i.bytes ++ rest) none ∙ append-nil i.bytes)) i.sent;
    }

pub handing-smaller : goal.handing-smaller
handing-smaller g c =
    let t = c.take_out-count.ensures in
    smaller g.D.Dir.told c.handing.host c.take_out-count.new.self c.take_out-count.result c.handing.invariant.hands.keeps c.if-count-eq0.false (omega (arith, t.count)) t.left

pub handing-preserved : goal.handing-preserved
handing-preserved g c =
    let i = c.handing.invariant in
    let t = c.take_out-count.ensures in
    let piece = take c.take_out-count.result c.take_out-count.new.into in
    let size : length c.take_out-count.new.into ≡ length c.handing.piece = c.take_out-count.auto.into in
    let few : c.take_out-count.result ≤ free_of (listed c.handing.host.held.register 1) = omega (arith, t.count) in
    let count : length piece ≡ c.take_out-count.result = length-take-le c.take_out-count.result c.take_out-count.new.into (omega (arith, t.count, size)) in
    record {
      some = omega (arith, i.some, size);
      bytes = i.bytes ++ piece;
      hands = hands_more g.D.Dir.told c.args.host.now c.handing.host c.take_out-count.new.self i.bytes piece c.take_out-count.result c.requires.one i.hands.keeps i.hands t.kept few count t.moved t.left;
      sent = Appends-trans (g.K.Sink.told c.args.sink.now).got (g.K.Sink.told c.handing.sink).got (g.K.Sink.told c.put_all.new.sink).got i.bytes piece i.sent c.in_ok-put_all.ensures.ok;
      kept = c.in_ok-put_all.ensures.cause.kept ∙ i.kept;
    }

pub returns-in_err-put_all-clause-part : goal.returns-in_err-put_all-clause-part
returns-in_err-put_all-clause-part g c =
    let p = err_from_is_err_and c.from_residual.result c.from_residual.ensures.1 in
    let i = c.handing.invariant in
    let t = c.take_out-count.ensures in
    let piece = take c.take_out-count.result c.take_out-count.new.into in
    let size : length c.take_out-count.new.into ≡ length c.handing.piece = c.take_out-count.auto.into in
    let few : c.take_out-count.result ≤ free_of (listed c.handing.host.held.register 1) = omega (arith, t.count) in
    let count : length piece ≡ c.take_out-count.result = length-take-le c.take_out-count.result c.take_out-count.new.into (omega (arith, t.count, size)) in
    rw (p.1) (record {
      bytes = i.bytes ++ piece;
      hands = hands_more g.D.Dir.told c.args.host.now c.handing.host c.take_out-count.new.self i.bytes piece c.take_out-count.result c.requires.one i.hands.keeps i.hands t.kept few count t.moved t.left;
      count = length i.bytes + c.in_err-put_all.ensures.err.0;
      sent = part_sent (g.K.Sink.told c.args.sink.now).got (g.K.Sink.told c.handing.sink).got (g.K.Sink.told c.put_all.new.sink).got i.bytes piece c.in_err-put_all.ensures.err.0 i.sent c.in_err-put_all.ensures.err.1;
    })
