-- Serves clause tells of `tell_look`.
use Rattle.std.proofs.Common.{refl, ap, subst, ◌∙◌, ℕ, take}
use Rattle.std.proofs.lemmas.Result.{err_from_is_err_and}
use Rattle.std.specs.Io.KnownBytes.{Appends}
use Rattle.disk_model.proofs.Moments.{no_call_same}
use Rattle.core_types.specs.declared.stop.Stop.TheVariants as stop
use Rattle.restart.specs.declared.opening.OpenStop.TheVariants as stops
use Rattle.server_shell.specs.Check.{check_text}
use Rattle.server_shell.proofs.checking.tell_look.Goals as goal

pub returns-in_err-loader-clause-tells : goal.returns-in_err-loader-clause-tells
returns-in_err-loader-clause-tells g c left clock =
    let p = err_from_is_err_and c.from_residual.result c.from_residual.ensures.1 in
    rw (p.1, p.2) (record { disk = no_call_same (g.D.Dir.told c.args.dir.now) (g.D.Dir.told c.args.dir.now) refl; left = refl; clock = refl }, record { why = stops.Stopped stop.Memory; is = refl; unopened = tt; got = refl })

pub returns-in_err-text-clause-tells : goal.returns-in_err-text-clause-tells
returns-in_err-text-clause-tells g c left clock =
    let p = err_from_is_err_and c.from_residual-in_err-text.result c.from_residual-in_err-text.ensures.1 in
    rw (p.1, p.2) (record { disk = c.look.ensures.same; left = refl; clock = refl }, record { why = stops.Stopped stop.Memory; is = refl; unopened = tt; got = refl })

pub returns-in_err-put_all-clause-tells : goal.returns-in_err-put_all-clause-tells
returns-in_err-put_all-clause-tells g c left clock =
    let p = err_from_is_err_and c.from_residual-in_err-put_all.result c.from_residual-in_err-put_all.ensures.1 in
    let e = c.in_err-put_all.ensures.err in
    rw (p.1, p.2) (
      record { disk = c.look.ensures.same; left = refl; clock = refl },
      (
        record { keys = c.look.new.replayer; opened = c.in_ok-opened.opened; finds = c.in_ok-opened.ensures.found },
        (e.0, subst (λ text. Appends (g.K.Sink.told c.args.sink.now).got (g.K.Sink.told c.put_all.new.sink).got (take e.0 text)) (c.as_slice.ensures.bytes ∙ c.in_ok-text.ensures.text ∙ ap (λ (n : ℕ). check_text n c.in_ok-opened.opened) c.keys-keys.ensures.count) e.1),
      ),
    )

pub returns-clause-tells : goal.returns-clause-tells
returns-clause-tells g c left clock = (
  record { disk = c.look.ensures.same; left = refl; clock = refl },
  (
    record { keys = c.look.new.replayer; opened = c.in_ok-opened.opened; finds = c.in_ok-opened.ensures.found },
    subst (λ text. Appends (g.K.Sink.told c.args.sink.now).got (g.K.Sink.told c.put_all.new.sink).got text) (c.as_slice.ensures.bytes ∙ c.in_ok-text.ensures.text ∙ ap (λ (n : ℕ). check_text n c.in_ok-opened.opened) c.keys-keys.ensures.count) c.in_ok-put_all.ensures.ok,
  ),
)
