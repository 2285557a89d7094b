-- Serves clause others of `others_are_no_changes`.
use Rattle.std.proofs.Common.{◌≡◌, refl, ap, ℕ, if◌then◌else◌, List, Option, Some, None, Err}
use Rattle.core_types.specs.Keys.{Keys}
use Rattle.effect_log.specs.Refusal.{Refusal}
use Rattle.host_core.specs.declared.builtin.Builtin.{Builtin}
use Rattle.host_core.specs.Laws.{IsNoChange}
use Rattle.host_core.specs.Replay.{redone, replayed_as}

pub no_change : (named : Option Builtin) (keys : Keys) (words : List (List ℕ)) → IsNoChange named → replayed_as named keys words ≡ Err Refusal.NotAnEffect
no_change None keys words reads = refl
no_change (Some cmd) keys words reads = ap (λ writes. if writes then redone cmd keys words else Err Refusal.NotAnEffect) reads
