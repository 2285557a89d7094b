-- Serves clauses computed and places of `compute`, and what it asks of `unit_text`.
use Rattle.std.proofs.Common.{◌∙◌, ap}
use Rattle.effect_log.specs.Unit.{unit}
use Rattle.host_core.specs.Core.{state_of}
use Rattle.host_core.proofs.KeptLimits.{step_kept}
use Rattle.durable_host.specs.inner.Running.{any_native}
use Rattle.durable_host.proofs.Streams.{step_fronts, step_places}
use Rattle.durable_host.proofs.computing.compute.Goals as goal

pub unit_text-requires : goal.unit_text-requires
unit_text-requires c =
    rw c.in_ok-stepped.ensures.steps.effects (step_kept any_native (state_of c.args.core.now) c.args.event c.requires.servable c.requires.limits).effects

pub returns-in_err-unit-clause-places : goal.returns-in_err-unit-clause-places
returns-in_err-unit-clause-places c =
    step_places c.args.core.now c.step.new.self c.args.event c.in_ok-stepped.ensures.steps.state c.requires.joined c.in_ok-stepped.ensures.steps.places c.requires.fronts

pub returns-in_err-push-clause-places : goal.returns-in_err-push-clause-places
returns-in_err-push-clause-places c =
    step_places c.args.core.now c.step.new.self c.args.event c.in_ok-stepped.ensures.steps.state c.requires.joined c.in_ok-stepped.ensures.steps.places c.requires.fronts

pub returns-clause-computed : goal.returns-clause-computed
returns-clause-computed c = record {
  state = c.in_ok-stepped.ensures.steps.state;
  unit = c.in_ok-unit.ensures.unit ∙ ap unit c.in_ok-stepped.ensures.steps.effects;
  answer = c.in_ok-stepped.ensures.steps.answer;
  fronts = step_fronts c.args.core.now c.step.new.self c.args.event c.in_ok-stepped.ensures.steps.state c.requires.joined c.in_ok-stepped.ensures.steps.places c.requires.fronts;
}

pub returns-clause-places : goal.returns-clause-places
returns-clause-places c =
    step_places c.args.core.now c.step.new.self c.args.event c.in_ok-stepped.ensures.steps.state c.requires.joined c.in_ok-stepped.ensures.steps.places c.requires.fronts
