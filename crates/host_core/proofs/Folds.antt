-- Serves clause `joined` of `runs_are_joined`.
use Rattle.std.proofs.Common.{◌≡◌, refl, sym, ap, ◌∙◌, ℕ, List, [], ◌∷◌, ◌++◌}
use Rattle.std.proofs.lemmas.List.{append_assoc}
use Rattle.host_core.specs.Fold.{after, bytes_to, effects, said}
use Rattle.host_core.specs.Laws.{GoesOn}
use Rattle.host_core.specs.State.{Step}

module _ {S Event : Type 0} (step : S → Event → Step S) where
  after-joined : (state : S) (first second : List Event) → after step state (first ++ second) ≡ after step (after step state first) second
  after-joined state [] second = refl
  after-joined state (event ∷ more) second = after-joined (step state event).state more second

  said-joined : (state : S) (first second : List Event) (client : ℕ) → said step state (first ++ second) client ≡ said step state first client ++ said step (after step state first) second client
  said-joined state [] second client = refl
  said-joined state (event ∷ more) second client =
      ap (λ rest. bytes_to client (step state event).out ++ rest) (said-joined (step state event).state more second client)
      ∙ sym (append_assoc (bytes_to client (step state event).out) (said step (step state event).state more client) _)

  effects-joined : (state : S) (first second : List Event) → effects step state (first ++ second) ≡ effects step state first ++ effects step (after step state first) second
  effects-joined state [] second = refl
  effects-joined state (event ∷ more) second = ap (λ rest. (step state event).effects ∷ rest) (effects-joined (step state event).state more second)

  pub goes_on : (state : S) (first second : List Event) → GoesOn step state first second
  goes_on state first second =
      record {
        state_after = after-joined state first second;
        bytes = said-joined state first second;
        changes = effects-joined state first second;
      }
