-- Serves clauses made, taken and broken of `serve_event`.
use Rattle.std.proofs.lemmas.Result.{err_from_is_err_and}
use Rattle.server_shell.proofs.OneEvent.{broken_one, made_one, taken_one, why_one}
use Rattle.server_shell.proofs.serving.serve_event.Goals as goal

pub returns-in_err-step-clause-broken : goal.returns-in_err-step-clause-broken
returns-in_err-step-clause-broken g c =
    let p = err_from_is_err_and c.from_residual.result c.from_residual.ensures.1 in
    rw (p.1) (broken_one g.D.Dir.told c.args.host.now c.step.new.self c.args.event c.requires.runs c.requires.keeps c.step.ensures.kept c.step.ensures.crash c.in_err-step.field-0.0 c.in_err-step.ensures.stops)

pub returns-in_err-step-clause-why : goal.returns-in_err-step-clause-why
returns-in_err-step-clause-why g c =
    let p = err_from_is_err_and c.from_residual.result c.from_residual.ensures.1 in
    rw (p.1, p.2) (why_one g.D.Dir.told c.args.host.now c.step.new.self c.args.event c.requires.runs c.requires.keeps c.step.ensures.kept c.step.ensures.crash c.in_err-step.field-0.0 c.in_err-step.ensures.stops)

pub returns-clause-made : goal.returns-clause-made
returns-clause-made g c =
    made_one g.D.Dir.told c.args.host.now c.step.new.self c.args.event c.requires.runs c.requires.keeps c.step.ensures.kept c.step.ensures.crash c.in_ok-step.field-0 c.in_ok-step.ensures.happens

pub returns-clause-taken : goal.returns-clause-taken
returns-clause-taken g c stays =
    taken_one g.D.Dir.told c.args.host.now c.step.new.self c.args.event c.requires.runs c.requires.keeps c.step.ensures.kept c.step.ensures.crash c.in_ok-step.field-0 c.in_ok-step.ensures.happens stays
