-- Serves clauses told and joined of `replies_are_told`: event by event.
use Rattle.std.proofs.Common.{◌≡◌, ◌<◌, refl, sym, ap, ◌∙◌, ℕ, Bool, true, false, if◌then◌else◌, nat_le, List, Option, Some, None, arith, length}
use Rattle.std.proofs.lemmas.Bool.Decides.{nat_tests}
use Rattle.core_types.specs.CommandRow.{takes}
use Rattle.sequences.specs.Words.{word}
use Rattle.core_types.specs.declared.event.Answer.TheVariants as answer
use Rattle.core_types.specs.declared.event.Event.{Event}
use Rattle.core_types.specs.declared.event.Event.TheVariants as event
use Rattle.client_book.specs.Client.{closes}
use Rattle.client_book.specs.Client as client
use Rattle.client_book.specs.Register.{Roll}
use Rattle.client_book.specs.declared.client.Client.{Client}
use Rattle.resp_codec.specs.ReplyText.{text}
use Rattle.host_core.specs.declared.builtin.Builtin.{Builtin}
use Rattle.host_core.specs.declared.builtin.Builtin.TheVariants as builtin
use Rattle.host_core.specs.declared.connection.ConnectionCmd.{ConnectionCmd}
use Rattle.host_core.specs.declared.connection.ConnectionCmd.TheVariants as connection
use Rattle.host_core.specs.Builtins.{builtin_named, builtin_row}
use Rattle.host_core.specs.Clients.{client_at, closed, is_served, with_new}
use Rattle.host_core.specs.Events.{step, client_goes, refused_stream}
use Rattle.host_core.specs.Fold.{bytes_to}
use Rattle.host_core.specs.Laws.{AllJoined, IsTold, TellsReplies}
use Rattle.host_core.specs.Serving.{closed_at_quit, served, served_as, served_by}
use Rattle.host_core.specs.State.{State, Served, Step, answers, becomes, stays}
use Rattle.host_core.proofs.Replies.{BecomesAt, LeavesReplies, Joined, at_changed, at_same, closing_leaves, nothing_leaves, joined-changed, joined-new, joined-without, told_gone, told_new, told_nothing, told_reply}

-- serving changes of the clients the record of one alone, and not its replies
pub record Leaves (c : ℕ) (before after : Roll) : Type 0 where
  pub change : Client → Client
  pub leaves : LeavesReplies change
  pub at : BecomesAt change c before after
  pub joined : Joined before → Joined after

same_leaves : (c : ℕ) (roll : Roll) → Leaves c roll roll
same_leaves c roll = record { change = λ client. client; leaves = nothing_leaves; at = at_same c roll; joined = λ joined. joined }

pub closed_leaves : (c : ℕ) (roll : Roll) → Leaves c roll (closed c roll)
closed_leaves c roll = record { change = closes; leaves = closing_leaves; at = at_changed closes c roll; joined = joined-changed closes c roll }

either_leaves : (c : ℕ) (roll : Roll) (b : Bool) (x y : Served) → Leaves c roll x.state.clients → Leaves c roll y.state.clients → Leaves c roll (if b then x else y).state.clients
either_leaves c roll true x y one other = one
either_leaves c roll false x y one other = other

quits_leaves : (cmd : ConnectionCmd) (c : ℕ) (state : State) → Leaves c state.clients (closed_at_quit cmd c state).clients
quits_leaves connection.Quit c state = closed_leaves c state.clients
quits_leaves connection.Ping c state = same_leaves c state.clients
quits_leaves connection.Echo c state = same_leaves c state.clients
quits_leaves connection.Select c state = same_leaves c state.clients
quits_leaves connection.Command c state = same_leaves c state.clients

by_leaves : (cmd : Builtin) (c : ℕ) (words : List (List ℕ)) (state : State) → Leaves c state.clients (served_by cmd c words state).state.clients
by_leaves (builtin.Connection cmd) c words state = quits_leaves cmd c state
by_leaves (builtin.Keys cmd) c words state = same_leaves c state.clients

pub as_leaves : (cmd : Option Builtin) (c : ℕ) (words : List (List ℕ)) (state : State) → Leaves c state.clients (served_as cmd c words state).state.clients
as_leaves None c words state = same_leaves c state.clients
as_leaves (Some cmd) c words state =
    either_leaves c state.clients (takes (builtin_row cmd).arity (length words)) _ _ (by_leaves cmd c words state) (same_leaves c state.clients)

-- ---- what is told

abbrev Tells : State → Step State → Type 0
Tells state next =
    (q : ℕ) (was now : Client) → client_at state.clients q ≡ Some was → client_at next.state.clients q ≡ Some now → IsTold was now (bytes_to q next.out)

tells_nothing : (state next : State) (said : _) → next.clients ≡ state.clients → Tells state (stays said next)
tells_nothing state next said same q was now here there =
    told_nothing was now here (ap (λ roll. client_at roll q) (sym same) ∙ there)

tells_answer : (state : State) (c : ℕ) (served : Served) → Leaves c state.clients served.state.clients → Tells state (answers c served)
tells_answer state c served leaves q was now here there =
    told_reply leaves.change leaves.leaves c served.reply state.clients served.state.clients leaves.at q was now here there

tells_either : (state : State) (b : Bool) (x y : Step State) → Tells state x → Tells state y → Tells state (if b then x else y)
tells_either state true x y one other = one
tells_either state false x y one other = other

tells_join : (state : State) (c : ℕ) → AllJoined state → (b : Bool) → nat_le c state.clients.last ≡ b
    → Tells state (if b then stays answer.StaleClient state else becomes (record state { clients = with_new c state.clients }))
tells_join state c joined true test = tells_nothing state state answer.StaleClient refl
tells_join state c joined false test = λ q was now here there.
    let above : state.clients.last < c = grind (arith, nat_tests, test) in
    told_new state.clients c q was now above joined here there

tells_gone : (state : State) (c : ℕ) (o : Option Client) → Tells state (client_goes c o state)
tells_gone state c None = tells_nothing state state answer.NoClient refl
tells_gone state c (Some client) = λ q was now here there. told_gone state.clients c q was now here there

pub tells : (state : State) (happens : Event) → AllJoined state → TellsReplies state happens
tells state (event.Join c) joined = tells_join state c joined _ refl
tells state (event.Arrive c words) joined =
    tells_either state (is_served (client_at state.clients c)) _ _
    (tells_answer state c (served c words state) (as_leaves (builtin_named (word 0 words)) c words state))
    (tells_nothing state state answer.NoClient refl)
tells state (event.Malformed c kind) joined =
    tells_either state (is_served (client_at state.clients c)) _ _
    (tells_answer state c (refused_stream c kind state) (closed_leaves c state.clients))
    (tells_nothing state state answer.NoClient refl)
tells state (event.Unblock ticket payload) joined = tells_nothing state state answer.NeverIssued refl
tells state event.Pump joined = tells_nothing state state answer.NothingReady refl
tells state (event.Tick shown) joined = λ q was now here there. told_nothing was now here there
tells state (event.Gone c) joined = tells_gone state c (client_at state.clients c)
tells state (event.Section place op) joined = tells_nothing state state answer.NoModule refl
tells state event.Flush joined = tells_nothing state state answer.Done refl
tells state event.RewriteBegin joined = tells_nothing state state answer.Done refl
tells state event.RewriteStep joined = tells_nothing state state answer.Done refl
tells state event.RewriteEnd joined = tells_nothing state state answer.Done refl

-- ---- who joined

joined_either : (b : Bool) (x y : Step State) → AllJoined x.state → AllJoined y.state → AllJoined (if b then x else y).state
joined_either true x y one other = one
joined_either false x y one other = other

joined_answer : (state : State) (c : ℕ) (served : Served) → Leaves c state.clients served.state.clients → AllJoined state → AllJoined (answers c served).state
joined_answer state c served leaves joined = joined-changed (client.tells (text served.reply)) c served.state.clients (leaves.joined joined)

joined_join : (state : State) (c : ℕ) → AllJoined state → (b : Bool) → nat_le c state.clients.last ≡ b
    → AllJoined (if b then stays answer.StaleClient state else becomes (record state { clients = with_new c state.clients })).state
joined_join state c joined true test = joined
joined_join state c joined false test = joined-new c state.clients (grind (arith, nat_tests, test)) joined

joined_gone : (state : State) (c : ℕ) (o : Option Client) → AllJoined state → AllJoined (client_goes c o state).state
joined_gone state c None joined = joined
joined_gone state c (Some client) joined = joined-without c state.clients joined

pub stay_joined : (state : State) (happens : Event) → AllJoined state → AllJoined (step state happens).state
stay_joined state (event.Join c) joined = joined_join state c joined _ refl
stay_joined state (event.Arrive c words) joined =
    joined_either (is_served (client_at state.clients c)) _ _
    (joined_answer state c (served c words state) (as_leaves (builtin_named (word 0 words)) c words state) joined) joined
stay_joined state (event.Malformed c kind) joined =
    joined_either (is_served (client_at state.clients c)) _ _
    (joined_answer state c (refused_stream c kind state) (closed_leaves c state.clients) joined) joined
stay_joined state (event.Unblock ticket payload) joined = joined
stay_joined state event.Pump joined = joined
stay_joined state (event.Tick shown) joined = joined
stay_joined state (event.Gone c) joined = joined_gone state c (client_at state.clients c) joined
stay_joined state (event.Section place op) joined = joined
stay_joined state event.Flush joined = joined
stay_joined state event.RewriteBegin joined = joined
stay_joined state event.RewriteStep joined = joined
stay_joined state event.RewriteEnd joined = joined
