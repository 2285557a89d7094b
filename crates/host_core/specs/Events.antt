-- What each event of the machine does: a function each, and the step that is made of them.
use Rattle.std.specs.Prelude.{ℕ, max, nat_le, List, [], if◌then◌else◌, Option, Some, None}
use Rattle.core_types.specs.declared.bad_request.BadRequest.{BadRequest}
use Rattle.core_types.specs.declared.event.Answer.TheVariants as answer
use Rattle.core_types.specs.declared.event.Event.{Event}
use Rattle.core_types.specs.declared.event.Event.TheVariants as event
use Rattle.resp_codec.specs.BadReply.{bad_reply}
use Rattle.client_book.specs.declared.client.Client.{Client}
use Rattle.host_core.specs.Clients.{client_at, closed, is_served, with_new, without_client}
use Rattle.host_core.specs.Expiry.{Expiry, expired_at}
use Rattle.host_core.specs.Serving.{served}
use Rattle.host_core.specs.State.{Served, State, Step, answers, becomes, replies, stays}

-- a client joins, whose number is above all that joined
abbrev pub client_joins : ℕ → State → Step State
client_joins client state =
    if nat_le client state.clients.last then stays answer.StaleClient state
    else becomes (record state { clients = with_new client state.clients })

-- a request comes
abbrev pub arrives : ℕ → List (List ℕ) → State → Step State
arrives client words state =
    if is_served (client_at state.clients client) then answers client (served client words state)
    else stays answer.NoClient state

-- what comes is no request: the client is told an error, and is served no longer
abbrev pub refused_stream : ℕ → BadRequest → State → Served
refused_stream client kind state =
    replies (bad_reply kind) (record state { clients = closed client state.clients })

abbrev pub is_malformed : ℕ → BadRequest → State → Step State
is_malformed client kind state =
    if is_served (client_at state.clients client)
    then answers client (refused_stream client kind state)
    else stays answer.NoClient state

-- the keys that are due at a moment are removed
abbrev pub passes_to : ℕ → Expiry → State → Step State
passes_to moment expiry state =
    record {
      state = record state { keys = expiry.keys; moment = moment };
      out = [];
      effects = expiry.effects;
      answer = answer.Done;
    }

-- the clock shows a moment; it never goes back
abbrev pub ticks : ℕ → State → Step State
ticks shown state =
    let moment = max state.moment shown in passes_to moment (expired_at moment state.keys) state

-- a client goes, where this is its record
abbrev pub client_goes : ℕ → Option Client → State → Step State
client_goes client None state = stays answer.NoClient state
client_goes client (Some gone) state =
    becomes (record state { clients = without_client client state.clients })

-- One step. No module is there, and no ticket was issued: the events of both find nothing. A flush
-- and the events of a rewrite change nothing of the machine.
abbrev pub step : State → Event → Step State
step state (event.Join client) = client_joins client state
step state (event.Arrive client words) = arrives client words state
step state (event.Malformed client kind) = is_malformed client kind state
step state (event.Unblock ticket payload) = stays answer.NeverIssued state
step state event.Pump = stays answer.NothingReady state
step state (event.Tick shown) = ticks shown state
step state (event.Gone client) = client_goes client (client_at state.clients client) state
step state (event.Section place text) = stays answer.NoModule state
step state event.Flush = stays answer.Done state
step state event.RewriteBegin = stays answer.Done state
step state event.RewriteStep = stays answer.Done state
step state event.RewriteEnd = stays answer.Done state
