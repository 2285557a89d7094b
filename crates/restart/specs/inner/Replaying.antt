-- What stands where the effects of a unit, or of a log, were not all replayed.
use Rattle.std.specs.Prelude.{◌≡◌, ⊤, ℕ, List, take, slice_get, Some, Ok}
use Rattle.std.specs.List.{AllByRecursion}
use Rattle.core_types.specs.Keys.{Keys}
use Rattle.core_types.specs.declared.effect.Effect.{Effect}
use Rattle.disk_model.specs.declared.file_name.FileName.TheVariants.{Log}
use Rattle.effect_log.specs.declared.reason.Reason.{Reason}
use Rattle.effect_log.specs.declared.replayer.ReplayStop.{ReplayStop}
use Rattle.effect_log.specs.declared.replayer.ReplayStop.TheVariants as replaying
use Rattle.effect_log.specs.Unit.{IsReplayable}
use Rattle.effect_log.specs.Replay.{Meaning, Refuses, replayed, IsRefused}
use Rattle.restart.specs.declared.opening.OpenStop.{OpenStop}
use Rattle.restart.specs.declared.opening.OpenStop.TheVariants as stops

-- each effect can be replayed
abbrev pub AreReplayable : List Effect → Type 0
AreReplayable effects = AllByRecursion IsReplayable effects

-- the stop that an effect at this offset leads to, where it was not replayed
abbrev pub stopped_by : ReplayStop → ℕ → OpenStop
stopped_by (replaying.Refused place why) at = stops.LogRefused Log at why
stopped_by (replaying.Stopped stop) at = stops.Stopped stop

-- an effect makes nothing of the keys that those before it made
pub record IsRefusedIn (replay : Meaning) (keys : Keys) (effects : List Effect)
    (starts : List ℕ) (why : Reason) (at : ℕ) : Type 0 where
  pub count : ℕ
  pub effect : Effect
  pub made : Keys
  pub there : slice_get effects count ≡ Some effect
  pub before : replayed replay keys (take count effects) ≡ Ok made
  pub refused : Refuses replay made effect why
  pub start : slice_get starts count ≡ Some at

-- Why the effects of a unit were not replayed, where they begin at these offsets.
abbrev pub UnitStop : Meaning → OpenStop → Keys → List Effect → List ℕ → Type 0
UnitStop replay (stops.LogRefused file at why) keys effects starts =
    (file ≡ Log) × IsRefusedIn replay keys effects starts why at
UnitStop replay (stops.Stopped stop) keys effects starts = ⊤
UnitStop replay stop keys effects starts = ⊥

-- Why the bytes of a log were not replayed.
abbrev pub BytesStop : Meaning → OpenStop → List ℕ → Type 0
BytesStop replay (stops.LogRefused file at why) bytes = (file ≡ Log) × IsRefused replay bytes why at
BytesStop replay (stops.Stopped stop) bytes = ⊤
BytesStop replay stop bytes = ⊥
