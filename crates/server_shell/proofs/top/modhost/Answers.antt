-- Serves clauses usage, usage_untouched and checks of `modhost`, where a look was asked for.
use Rattle.std.proofs.Common.{sym, ◌∙◌}
use Rattle.std.proofs.lemmas.Option.{none-some}
use Rattle.server_shell.specs.Pipe.{outside_of}
use Rattle.server_shell.proofs.Looks.{looks_are_no_usage}
use Rattle.server_shell.proofs.top.modhost.Goals as goal

pub returns-in-Ok-Check-clause-usage : goal.returns-in-Ok-Check-clause-usage
returns-in-Ok-Check-clause-usage g c place =
    let o = outside_of (g.S.Source.told c.args.source.now) (g.S.Source.told c.args.source.now) (g.C.Clock.told c.args.clock.now) (g.C.Clock.told c.args.clock.now) (g.K.Sink.told c.args.sink.now) (g.K.Sink.told c.check.new.sink) in (
      λ is. absurd (looks_are_no_usage c.check.result.status (g.D.Dir.told c.args.dir) (g.D.Dir.told c.check.result.dir) o place
          (c.check.ensures.checks (g.S.Source.told c.args.source.now).left (g.C.Clock.told c.args.clock.now)) is),
      λ fault. absurd (none-some place (sym c.in-Ok-Check.ensures.fault.0 ∙ fault)),
    )

pub returns-in-Ok-Check-clause-usage_untouched : goal.returns-in-Ok-Check-clause-usage_untouched
returns-in-Ok-Check-clause-usage_untouched g c place is =
    let o = outside_of (g.S.Source.told c.args.source.now) (g.S.Source.told c.args.source.now) (g.C.Clock.told c.args.clock.now) (g.C.Clock.told c.args.clock.now) (g.K.Sink.told c.args.sink.now) (g.K.Sink.told c.check.new.sink) in
    absurd (looks_are_no_usage c.check.result.status (g.D.Dir.told c.args.dir) (g.D.Dir.told c.check.result.dir) o place
    (c.check.ensures.checks (g.S.Source.told c.args.source.now).left (g.C.Clock.told c.args.clock.now)) is)

pub returns-in-Ok-Check-clause-checks : goal.returns-in-Ok-Check-clause-checks
returns-in-Ok-Check-clause-checks g c known job = c.check.ensures.checks (g.S.Source.told c.args.source.now).left (g.C.Clock.told c.args.clock.now)
