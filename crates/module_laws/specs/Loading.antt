-- What loading a saved value leaves.
use Rattle.std.specs.Prelude.{◌≡◌, ◌+◌, ◌-◌, ◌^◌, Result, Ok, Err, IfOk, IfErr, OnOk, OnErr}
use Rattle.core_types.specs.Keys.{Native}
use Rattle.core_types.specs.declared.load_fault.LoadFault.{LoadFault}
use Rattle.core_types.specs.declared.stop.Stop.TheVariants as stop
use Rattle.module_laws.specs.Runs.{State}
use Rattle.module_laws.specs.Words.{Saved}
use Rattle.module_laws.specs.declared.verdict.LoadStop.{LoadStop}
use Rattle.module_laws.specs.declared.verdict.LoadStop.TheVariants as stops

-- it is refused for the reason that the meaning gives, or the call stopped
abbrev pub StopsLoading : Result Saved LoadFault → State → LoadStop → Type 0
StopsLoading loads new (stops.Refused why) = loads ≡ Err why
StopsLoading loads new (stops.Stopped stop.NumbersSpent) = new.made ≡ 2 ^ 64 - 1
StopsLoading loads new (stops.Stopped _) = Unit {0}

abbrev pub with_made : State → State
with_made state = record state { made = state.made + 1 }

-- The value is the one that the meaning loads, and is counted. Nothing else changes.
pub record Loads {V : Type 0} (loads : Result Saved LoadFault) (native : V → Native)
    (result : Result V LoadStop) (old new : State) : Type 0 where
  pub value : IfOk result (λ made. loads ≡ Ok (native made).items)
  pub stops : IfErr result (StopsLoading loads new)
  pub counted : OnOk result (new ≡ with_made old)
  pub kept : OnErr result (new ≡ old)
