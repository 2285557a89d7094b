-- The effects of a frame, replayed one after the other. It serves the clauses of `replay_all`.
use Rattle.std.proofs.Common.{◌≡◌, ℕ, ◌+◌, ◌<◌, List, [], ◌∷◌, ◌++◌, length, take, get_or, Ok, refl, sym, ap, ◌∙◌}
use Rattle.std.proofs.lemmas.List.{take_more}
use Rattle.std.proofs.lemmas.Option.{slice_get_read}
use Rattle.core_types.specs.Keys.{Keys}
use Rattle.core_types.specs.declared.effect.Effect.{Effect}
use Rattle.effect_log.specs.declared.reason.Reason.{Reason}
use Rattle.effect_log.specs.Replay.{Meaning, Refuses, replayed}
use Rattle.effect_log.proofs.Replays.{replayed-on}
use Rattle.replica_feed.specs.Applying.{RefusesOne}

-- one effect alone
one : (replay : Meaning) (keys after : Keys) (e : Effect) → replay keys e ≡ Ok after
    → replayed replay keys (e ∷ []) ≡ Ok after
one replay keys after e is = rw is refl

-- one effect more
pub replayed-more : (replay : Meaning) (keys after last : Keys) (effects : List Effect) (n : ℕ)
    (e : Effect) → n < length effects → e ≡ get_or effects n e
    → replayed replay keys (take n effects) ≡ Ok after → replay after e ≡ Ok last
    → replayed replay keys (take (n + 1) effects) ≡ Ok last
replayed-more replay keys after last effects n e less is made more =
    ap (replayed replay keys)
    (take_more effects n e less ∙ ap (λ (x : Effect). take n effects ++ x ∷ []) (sym is))
    ∙ replayed-on replay keys after (take n effects) (e ∷ []) made ∙ one replay after last e more

-- an effect that was refused
pub refuses_at : (replay : Meaning) (keys after : Keys) (effects : List Effect) (n : ℕ)
    (e : Effect) (why : Reason) → n < length effects → e ≡ get_or effects n e
    → replayed replay keys (take n effects) ≡ Ok after → Refuses replay after e why
    → RefusesOne replay keys effects why
refuses_at replay keys after effects n e why less is made refused = record {
  count = n;
  effect = e;
  after = after;
  there = slice_get_read effects (length effects) n e refl less is;
  before = made;
  refused = refused;
}
