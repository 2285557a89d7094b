-- Serves the clauses of `limits_are_kept` and `effects_make_the_keys`: what a step makes of the
-- keys, event by event.
use Rattle.std.proofs.Common.{◌≡◌, refl, max, ℕ, Bool, true, false, if◌then◌else◌, nat_le, List, [], length, Option, Some, None}
use Rattle.core_types.specs.CommandRow.{MeetArity, takes}
use Rattle.sequences.specs.Words.{word}
use Rattle.core_types.specs.Keys.{Keys}
use Rattle.core_types.specs.declared.effect.Effect.{Effect}
use Rattle.core_types.specs.declared.event.Event.{Event}
use Rattle.core_types.specs.declared.event.Event.TheVariants as event
use Rattle.client_book.specs.declared.client.Client.{Client}
use Rattle.key_cmds.specs.Commands.{command_row}
use Rattle.key_cmds.specs.Rows.{does}
use Rattle.key_cmds.specs.declared.command.Command.{Command}
use Rattle.host_core.specs.Builtins.{builtin_named, builtin_row}
use Rattle.host_core.specs.Clients.{client_at, is_served}
use Rattle.host_core.specs.Events.{client_goes, step}
use Rattle.host_core.specs.Expiry.{expired_at}
use Rattle.host_core.specs.Serving.{closed_at_quit, served, served_as, served_by, type_name}
use Rattle.host_core.specs.State.{Served, State, Step}
use Rattle.host_core.specs.declared.builtin.Builtin.{Builtin}
use Rattle.host_core.specs.declared.builtin.Builtin.TheVariants as builtin
use Rattle.host_core.specs.declared.connection.ConnectionCmd.{ConnectionCmd}
use Rattle.host_core.specs.declared.connection.ConnectionCmd.TheVariants as connection

-- P is said of the keys and the changes that something makes
module _ (P : Keys → List Effect → Type 0) (state : State) where
  abbrev HoldsServed : Served → Type 0
  HoldsServed served = P served.state.keys served.effects

  abbrev HoldsStep : Step State → Type 0
  HoldsStep next = P next.state.keys next.effects

  -- of what each command on the keys does that takes these words
  abbrev pub HoldsRuns : List (List ℕ) → Type 0
  HoldsRuns words =
      (cmd : Command) → MeetArity (command_row cmd) words
      → P (does type_name state.moment cmd state.keys words).keys (does type_name state.moment cmd state.keys words).effects

  -- of the removal of the keys that are due
  abbrev pub HoldsExpiry : ℕ → Type 0
  HoldsExpiry moment = P (expired_at moment state.keys).keys (expired_at moment state.keys).effects

  -- where P holds of the keys as they are and no change
  module _ (same : P state.keys []) where
    quits_same : (cmd : ConnectionCmd) (client : ℕ) → P (closed_at_quit cmd client state).keys []
    quits_same connection.Quit client = same
    quits_same _ client = same

    by_run : (cmd : Builtin) (client : ℕ) (words : List (List ℕ)) → HoldsRuns words → MeetArity (builtin_row cmd) words → HoldsServed (served_by cmd client words state)
    by_run (builtin.Connection cmd) client words runs arity = quits_same cmd client
    by_run (builtin.Keys cmd) client words runs arity = runs cmd arity

    if_taken : (taken : Bool) (run other : Served) → (taken ≡ true → HoldsServed run) → HoldsServed other → HoldsServed (if taken then run else other)
    if_taken true run other h k = h refl
    if_taken false run other h k = k

    as_run : (named : Option Builtin) (client : ℕ) (words : List (List ℕ)) → HoldsRuns words → HoldsServed (served_as named client words state)
    as_run None client words runs = same
    as_run (Some cmd) client words runs =
        if_taken (takes (builtin_row cmd).arity (length words)) (served_by cmd client words state) _ (by_run cmd client words runs) same

    either : (b : Bool) (next other : Step State) → HoldsStep next → HoldsStep other → HoldsStep (if b then next else other)
    either true next other h k = h
    either false next other h k = k

    goes : (client : ℕ) (there : Option Client) → HoldsStep (client_goes client there state)
    goes client None = same
    goes client (Some gone) = same

    -- P holds of every step
    pub each_step : (happens : Event) → ((client : ℕ) (words : List (List ℕ)) → happens ≡ event.Arrive client words → HoldsRuns words)
        → ((moment : ℕ) → HoldsExpiry moment) → HoldsStep (step state happens)
    each_step (event.Join client) runs expires = either (nat_le client state.clients.last) _ _ same same
    each_step (event.Arrive client words) runs expires =
        either (is_served (client_at state.clients client)) _ _ (as_run (builtin_named (word 0 words)) client words (runs client words refl)) same
    each_step (event.Malformed client kind) runs expires = either (is_served (client_at state.clients client)) _ _ same same
    each_step (event.Tick shown) runs expires = expires (max state.moment shown)
    each_step (event.Gone client) runs expires = goes client (client_at state.clients client)
    each_step _ runs expires = same
