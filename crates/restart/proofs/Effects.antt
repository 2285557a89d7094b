-- The effects of one unit, replayed one after the other.
use Rattle.std.proofs.Common.{◌≡◌, ℕ, ◌+◌, ◌<◌, List, [], ◌∷◌, ◌++◌, length, take, get_or, slice_get, Some, Ok, refl, sym, ap, ◌∙◌}
use Rattle.std.proofs.lemmas.List.{take_more}
use Rattle.std.proofs.lemmas.Option.{slice_get_read}
use Rattle.core_types.specs.Keys.{Keys}
use Rattle.core_types.specs.declared.effect.Effect.{Effect}
use Rattle.effect_log.specs.declared.reason.Reason.{Reason}
use Rattle.effect_log.specs.declared.replayer.ReplayStop.{ReplayStop}
use Rattle.effect_log.specs.declared.replayer.ReplayStop.TheVariants as replaying
use Rattle.effect_log.specs.Replay.{Meaning, Refuses, replayed}
use Rattle.effect_log.proofs.Replays.{replayed-on}
use Rattle.restart.specs.inner.Replaying.{UnitStop, stopped_by}

-- one effect alone
one : (replay : Meaning) (keys then : Keys) (e : Effect) → replay keys e ≡ Ok then → replayed replay keys (e ∷ []) ≡ Ok then
one replay keys then e is = rw is refl

-- one effect more
pub replayed-more : (replay : Meaning) (keys then last : Keys) (effects : List Effect) (n : ℕ) (e : Effect) → n < length effects → e ≡ get_or effects n e → replayed replay keys (take n effects) ≡ Ok then → replay then e ≡ Ok last
    → replayed replay keys (take (n + 1) effects) ≡ Ok last
replayed-more replay keys then last effects n e less is made more =
    ap (replayed replay keys) (take_more effects n e less ∙ ap (λ (x : Effect). take n effects ++ x ∷ []) (sym is))
    ∙ replayed-on replay keys then (take n effects) (e ∷ []) made ∙ one replay then last e more

-- an effect that was not replayed
pub stops_at : (replay : Meaning) (stop : ReplayStop) (keys then : Keys) (effects : List Effect) (starts : List ℕ) (n at : ℕ) (e : Effect) → n < length effects → e ≡ get_or effects n e → replayed replay keys (take n effects) ≡ Ok then
    → ((place : ℕ) (why : Reason) → stop ≡ replaying.Refused place why → (place ≡ 0) × Refuses replay then e why) → slice_get starts n ≡ Some at
    → UnitStop replay (stopped_by stop at) keys effects starts
stops_at replay (replaying.Refused place why) keys then effects starts n at e less is made refused start = (
  refl,
  record {
    count = n;
    effect = e;
    made = then;
    there = slice_get_read effects (length effects) n e refl less is;
    before = made;
    refused = (refused place why refl).1;
    start = start;
  },
)
stops_at replay (replaying.Stopped stop) keys then effects starts n at e less is made refused start = tt
