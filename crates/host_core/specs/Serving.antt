-- What serving a request means: it is said here and nowhere else.
use Rattle.std.specs.Prelude.{ℕ, List, length, if◌then◌else◌, Option, Some, None}
use Rattle.core_types.specs.CommandRow.{takes}
use Rattle.sequences.specs.Words.{word}
use Rattle.core_types.specs.Keys.{Native}
use Rattle.core_types.specs.Refusals.{unknown_command, wrong_arity}
use Rattle.key_cmds.specs.Rows.{does}
use Rattle.key_cmds.specs.Run.{Run}
use Rattle.host_core.specs.declared.builtin.Builtin.{Builtin}
use Rattle.host_core.specs.declared.builtin.Builtin.TheVariants as builtin
use Rattle.host_core.specs.declared.connection.ConnectionCmd.{ConnectionCmd}
use Rattle.host_core.specs.declared.connection.ConnectionCmd.TheVariants as connection
use Rattle.host_core.specs.Builtins.{builtin_named, builtin_row}
use Rattle.host_core.specs.Clients.{closed}
use Rattle.host_core.specs.Connection.{connection_reply}
use Rattle.host_core.specs.State.{Served, State, replies}

-- the name of the type of a module's value
abbrev pub type_name : Native → List ℕ
type_name native = native.name

-- a run of one command on the keys
abbrev pub runs : Run Native → State → Served
runs run state =
    record { state = record state { keys = run.keys }; reply = run.reply; effects = run.effects }

-- after QUIT the client is served no longer
abbrev pub closed_at_quit : ConnectionCmd → ℕ → State → State
closed_at_quit connection.Quit client state = record state { clients = closed client state.clients }
closed_at_quit _ client state = state

-- a command whose number of words is taken
abbrev pub served_by : Builtin → ℕ → List (List ℕ) → State → Served
served_by (builtin.Connection cmd) client words state =
    replies (connection_reply cmd words) (closed_at_quit cmd client state)
served_by (builtin.Keys cmd) client words state =
    runs (does type_name state.moment cmd state.keys words) state

-- the command of a request, where it is known
abbrev pub served_as : Option Builtin → ℕ → List (List ℕ) → State → Served
served_as None client words state = replies (unknown_command (word 0 words)) state
served_as (Some cmd) client words state =
    if takes (builtin_row cmd).arity (length words) then served_by cmd client words state
    else replies (wrong_arity (word 0 words)) state

abbrev pub served : ℕ → List (List ℕ) → State → Served
served client words state = served_as (builtin_named (word 0 words)) client words state
