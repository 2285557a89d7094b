-- Serves the clauses of `flush`.
use Rattle.std.proofs.lemmas.Result.{err_from_is_err_and}
use Rattle.core_types.specs.declared.event.Event.TheVariants as event
use Rattle.server_shell.proofs.Flushing.{no_goer, opened}
use Rattle.server_shell.proofs.OneEvent.{broken_one, made_one, taken_one}
use Rattle.server_shell.proofs.serving.flush.Goals as goal

pub returns-in_err-step-clause-broken : goal.returns-in_err-step-clause-broken
returns-in_err-step-clause-broken g c =
    let p = err_from_is_err_and c.from_residual.result c.from_residual.ensures.1 in
    rw (p.1) (broken_one g.D.Dir.told c.args.host.now c.step.new.self event.Flush c.requires.runs c.requires.keeps c.step.ensures.kept c.step.ensures.crash c.in_err-step.field-0.0 c.in_err-step.ensures.stops)

pub returns-clause-flushed : goal.returns-clause-flushed
returns-clause-flushed g c = record {
  made = made_one g.D.Dir.told c.args.host.now c.step.new.self event.Flush c.requires.runs c.requires.keeps c.step.ensures.kept c.step.ensures.crash c.in_ok-step.field-0 c.in_ok-step.ensures.happens;
  taken = taken_one g.D.Dir.told c.args.host.now c.step.new.self event.Flush c.requires.runs c.requires.keeps c.step.ensures.kept c.step.ensures.crash c.in_ok-step.field-0 c.in_ok-step.ensures.happens no_goer;
  opened = opened g.D.Dir.told c.args.host.now c.step.new.self c.in_ok-step.field-0 c.requires.keeps c.requires.one c.in_ok-step.ensures.happens c.step.ensures.kept;
  safe = c.in_ok-step.ensures.happens.safe;
}
