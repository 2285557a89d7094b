-- What serving gives before the client is told, as the core has it: nothing of it looks at what is
-- known of clients.
use Rattle.std.specs.Prelude.{◌≡◌, ℕ, Bool, true, false, if◌then◌else◌, List, [], ◌∷◌}
use Rattle.core_types.specs.Keys.{Keys}
use Rattle.core_types.specs.declared.event.Answer.{Answer}
use Rattle.core_types.specs.declared.event.Answer.TheVariants as answer
use Rattle.core_types.specs.declared.reply.Reply.{Reply}
use Rattle.core_types.specs.declared.reply.Reply.TheVariants as reply
use Rattle.client_book.specs.Client.{closes, tells}
use Rattle.client_book.specs.Register.{Register, Roll, changes}
use Rattle.host_core.specs.declared.connection.ConnectionCmd.{ConnectionCmd}
use Rattle.host_core.specs.declared.connection.ConnectionCmd.TheVariants as connection
use Rattle.host_core.specs.declared.given.Given.{Given}
use Rattle.host_core.specs.declared.stepped.Stepped.{Stepped}
use Rattle.host_core.specs.Clients.{closed}
use Rattle.host_core.specs.State.{Served, State}

-- a client is served no longer, where this is so
abbrev pub closed_if : Bool → ℕ → Roll → Roll
closed_if closes client roll = if closes then closed client roll else roll

-- the keys at a moment, with these clients
abbrev pub state_with : ℕ → Keys → Roll → State
state_with moment keys roll = record { keys = keys; moment = moment; clients = roll }

-- a way to serve gives this and makes these keys of those, whoever the client is and whatever is
-- known of clients
abbrev pub IsGiven : (ℕ → State → Served) → ℕ → Keys → Keys → Given → Type 0
IsGiven serving moment before after given =
    (client : ℕ) (roll : Roll) → serving client (state_with moment before roll)
    ≡ record {
      state = state_with moment after (closed_if given.closes client roll);
      reply = given.reply;
      effects = given.effects;
    }

-- a client is told a text, and then is served no longer where this is so
abbrev pub register_told : Bool → List ℕ → ℕ → Register → Register
register_told closing text client register =
    if closing then changes closes client (changes (tells text) client register)
    else changes (tells text) client register

-- whether a command of a connection ends it
abbrev pub is_quit : ConnectionCmd → Bool
is_quit connection.Quit = true
is_quit _ = false

-- nobody is replied to, and no key was changed
abbrev pub quiet : Answer → Stepped
quiet said = record { out = []; effects = []; answer = said; fresh = []; save = false }

-- a client is told what serving gave
abbrev pub heard : ℕ → Given → Stepped
heard client given =
    record {
      out = record { client = client; reply = given.reply } ∷ [];
      effects = given.effects;
      answer = answer.Done;
      fresh = [];
      save = false;
    }

abbrev pub is_error : Reply → Bool
is_error (reply.Error text) = true
is_error _ = false
