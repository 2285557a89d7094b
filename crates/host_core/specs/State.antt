-- The state of the machine, and what one step of it makes.
use Rattle.std.specs.Prelude.{ℕ, List, [], ◌∷◌}
use Rattle.core_types.specs.Keys.{Keys}
use Rattle.core_types.specs.declared.effect.Effect.{Effect}
use Rattle.core_types.specs.declared.event.Answer.{Answer}
use Rattle.core_types.specs.declared.event.Answer.TheVariants as answer
use Rattle.core_types.specs.declared.outs.Out.{Out}
use Rattle.core_types.specs.declared.reply.Reply.{Reply}
use Rattle.client_book.specs.Register.{Roll}
use Rattle.host_core.specs.Clients.{told}

-- the keys, the moment in milliseconds, and the clients with the last number that joined
pub record State : Type 0 where
  pub keys : Keys
  pub moment : ℕ
  pub clients : Roll

-- a step of a machine whose states are S: the state after it, the replies with their clients, the
-- changes of the keys as commands that make them again, and the answer
pub record Step (S : Type 0) : Type 0 where
  pub state : S
  pub out : List Out
  pub effects : List Effect
  pub answer : Answer

-- nothing is replied or changed
abbrev pub stays : Answer → State → Step State
stays answer state = record { state = state; out = []; effects = []; answer = answer }

-- the state becomes another, and nobody is replied to
abbrev pub becomes : State → Step State
becomes state = stays answer.Done state

-- what serving a request gives, before its client is told: the state, the reply, and the changes of
-- the keys
pub record Served : Type 0 where
  pub state : State
  pub reply : Reply
  pub effects : List Effect

-- a client is told a reply
abbrev pub hears : ℕ → Reply → State → State
hears client reply state = record state { clients = told reply client state.clients }

-- the client of what was served is told the reply
abbrev pub answers : ℕ → Served → Step State
answers client served =
    record {
      state = hears client served.reply served.state;
      out = record { client = client; reply = served.reply } ∷ [];
      effects = served.effects;
      answer = answer.Done;
    }

-- nothing but a reply is given
abbrev pub replies : Reply → State → Served
replies reply state = record { state = state; reply = reply; effects = [] }
