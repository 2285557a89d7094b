-- Applying an effect that makes nothing. Serves clause applies of OneKeyModule::apply.
use Rattle.std.proofs.Common.{◌≡◌, Option, None, Err, refl, arith}
use Rattle.core_types.specs.Keys.{Native}
use Rattle.module_laws.specs.Applying.{Applies}
use Rattle.module_laws.specs.Runs.{State}
use Rattle.module_laws.specs.Words.{Saved}
use Rattle.module_laws.specs.declared.verdict.ApplyStop.TheVariants as stops

-- the old value is handed back
pub handed_back : {V : Type 0} (after : Option (Option Saved)) (native : V → Native) (old : Option V)
    → (state : State) → after ≡ None → Applies after native old (Err (stops.Bad old)) state state
handed_back after native old state none = record {
  value = tt;
  back = (refl, none);
  private = refl;
  counted = tt;
  kept = record { made = omega arith; freed = omega arith; balance = omega arith };
  spent = tt;
}
