-- What applying an effect to a value leaves.
use Rattle.std.specs.Prelude.{◌≡◌, ℕ, ◌-◌, ◌^◌, Option, Some, None, Result, IfOk, IfErr, OnErr}
use Rattle.std.specs.Option.{option_map}
use Rattle.core_types.specs.Keys.{Native}
use Rattle.core_types.specs.declared.stop.Stop.TheVariants as stop
use Rattle.module_laws.specs.Runs.{State, IsCounted}
use Rattle.module_laws.specs.Words.{Saved}
use Rattle.module_laws.specs.declared.verdict.ApplyStop.{ApplyStop}
use Rattle.module_laws.specs.declared.verdict.ApplyStop.TheVariants as stops

module _ {V : Type 0} where
  -- what a value, where there is one, is saved as
  abbrev pub saved_of : (V → Native) → Option V → Option Saved
  saved_of native value = option_map (λ v. (native v).items) value

  abbrev pub count_of : Option V → ℕ
  count_of None = 0
  count_of (Some value) = 1

  -- The old value is handed back. It is refused where the words make nothing of it.
  abbrev pub HandsBack : Option (Option Saved) → Option V → ApplyStop V → Type 0
  HandsBack after old (stops.Bad back) = (back ≡ old) × (after ≡ None)
  HandsBack after old (stops.Stopped why back) = back ≡ old

  -- where no more values can be counted, that counter stands at its end
  abbrev pub IsSpentAt : State → ApplyStop V → Type 0
  IsSpentAt new (stops.Stopped stop.NumbersSpent back) = new.made ≡ 2 ^ 64 - 1
  IsSpentAt new _ = Unit {0}

  -- On `Ok` the value, or none, is what the effect makes of the old one. Nothing but the counts
  -- changes.
  pub record Applies (after : Option (Option Saved)) (native : V → Native) (given : Option V)
      (result : Result (Option V) (ApplyStop V)) (old new : State) : Type 0 where
    pub value : IfOk result (λ made. after ≡ Some (saved_of native made))
    pub back : IfErr result (HandsBack after given)
    pub private : new.private ≡ old.private
    pub counted : IfOk result (λ made. IsCounted (count_of made) (count_of given) old new)
    pub kept : OnErr result (IsCounted 0 0 old new)
    pub spent : IfErr result (IsSpentAt new)
