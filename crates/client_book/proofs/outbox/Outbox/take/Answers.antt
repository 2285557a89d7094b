use Rattle.std.proofs.Common.{◌≡◌, ◌-◌, ◌+◌, length, sym, ap, ◌∙◌, arith, length-drop}
use Rattle.client_book.proofs.outbox.Outbox.take.Goals as goal

pub invariant_of-self : goal.invariant_of-self
invariant_of-self c =
    let bytes = c.self.inside.bytes.items in
    let kept = c.let_go-self-inside.new.bytes.items in
    let end = c.self.inside.start + c.min-count.result in
    let left : length kept - c.let_go-self-inside.result ≡ length bytes - end =
    sym (length-drop c.let_go-self-inside.result kept) ∙ ap length c.let_go-self-inside.ensures.same ∙ length-drop end bytes in
    let waits : length c.args.self.now.told ≡ length bytes - c.self.inside.start =
    ap (λ box. length box.told) (sym c.self.view_is) ∙ length-drop c.self.inside.start bytes in
    record {
      taken = c.let_go-self-inside.ensures.kept;
      few = c.let_go-self-inside.ensures.few;
      within = omega (arith, c.free-free.ensures.within);
      fits = omega (arith, c.self.invariant.fits, c.free-free.ensures.within);
    }
