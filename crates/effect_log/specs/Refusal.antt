-- Why an effect makes nothing of the keys, and the reason that its log is refused for. Replaying
-- knows no faults of form.
use Rattle.effect_log.specs.declared.reason.Reason.{Reason}
use Rattle.effect_log.specs.declared.reason.Reason.TheVariants as reason

pub data Refusal : Type 0 where
  NotAnEffect : Refusal
  EffectRefused : Refusal

abbrev pub reason_of : Refusal → Reason
reason_of NotAnEffect = reason.NotAnEffect
reason_of EffectRefused = reason.EffectRefused
