-- Serves clause checks of `check`.
use Rattle.std.proofs.Common.{◌≡◌, sym, ap, subst, ◌∙◌}
use Rattle.server_shell.specs.Check.{CheckEnds}
use Rattle.server_shell.specs.Faults.{end_of}
use Rattle.server_shell.specs.Pipe.{unread}
use Rattle.server_shell.proofs.top.check.Goals as goal
use Rattle.server_shell.proofs.top.check.Goals.{in-Ok, in-Err}

pub returns-clause-checks : goal.returns-clause-checks
returns-clause-checks g c left clock =
    let same : end_of c.tell_look.result ≡ c.match-tell_look.status =
    elim c.match-tell_look.branch [ in-Ok w ↦ ap end_of w.in-Ok.is ∙ sym w.status-is | in-Err w ↦ ap end_of w.in-Err.is ∙ sym w.status-is ] in
    subst (λ end. CheckEnds end (g.D.Dir.told c.args.dir) (g.D.Dir.told c.tell_look.new.dir) (unread left clock (g.K.Sink.told c.args.sink.now) (g.K.Sink.told c.tell_look.new.sink))) same
    (c.tell_look.ensures.tells left clock)
