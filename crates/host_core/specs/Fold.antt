-- A run of a machine over a list of events, whatever its step is.
use Rattle.std.specs.Prelude.{ℕ, List, [], ◌∷◌, ◌++◌, ◌==◌, flat_map, if◌then◌else◌}
use Rattle.core_types.specs.declared.effect.Effect.{Effect}
use Rattle.core_types.specs.declared.outs.Out.{Out}
use Rattle.resp_codec.specs.ReplyText.{text}
use Rattle.host_core.specs.State.{Step}

-- the bytes of the replies to one client
abbrev pub bytes_to : ℕ → List Out → List ℕ
bytes_to client outs = flat_map (λ out. if out.client == client then text out.reply else []) outs

module _ {S Event : Type 0} (step : S → Event → Step S) where
  -- the state after the events
  abbrev pub after : S → List Event → S
  after state [] = state
  after state (event ∷ more) = after (step state event).state more

  -- the bytes that a client is told by them
  abbrev pub said : S → List Event → ℕ → List ℕ
  said state [] client = []
  said state (event ∷ more) client =
      bytes_to client (step state event).out ++ said (step state event).state more client

  -- the changes that each of them makes
  abbrev pub effects : S → List Event → List (List Effect)
  effects state [] = []
  effects state (event ∷ more) = (step state event).effects ∷ effects (step state event).state more
