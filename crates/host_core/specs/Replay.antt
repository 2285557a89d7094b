-- What a change in a log makes of the keys.
use Rattle.std.specs.Prelude.{ℕ, List, length, if◌then◌else◌, Option, Some, None, Result, Ok, Err}
use Rattle.core_types.specs.CommandRow.{takes}
use Rattle.sequences.specs.Words.{word}
use Rattle.core_types.specs.Keys.{Keys}
use Rattle.core_types.specs.declared.reply.Reply.{Reply}
use Rattle.core_types.specs.declared.reply.Reply.TheVariants as reply
use Rattle.effect_log.specs.Refusal.{Refusal}
use Rattle.effect_log.specs.Replay.{Meaning}
use Rattle.key_cmds.specs.Rows.{does}
use Rattle.host_core.specs.declared.builtin.Builtin.{Builtin}
use Rattle.host_core.specs.declared.builtin.Builtin.TheVariants as builtin
use Rattle.host_core.specs.Builtins.{builtin_named, builtin_row}
use Rattle.host_core.specs.Connection.{connection_reply}
use Rattle.host_core.specs.Serving.{type_name}

-- a command that answers an error makes nothing of the keys
abbrev pub unless_error : Reply → Keys → Result Keys Refusal
unless_error (reply.Error text) keys = Err Refusal.EffectRefused
unless_error _ keys = Ok keys

-- a command, at moment 0
abbrev pub made_by : Builtin → Keys → List (List ℕ) → Result Keys Refusal
made_by (builtin.Connection cmd) keys words = unless_error (connection_reply cmd words) keys
made_by (builtin.Keys cmd) keys words =
    let run = does type_name 0 cmd keys words in unless_error run.reply run.keys

-- where its number of words is taken
abbrev pub redone : Builtin → Keys → List (List ℕ) → Result Keys Refusal
redone cmd keys words =
    if takes (builtin_row cmd).arity (length words) then made_by cmd keys words
    else Err Refusal.EffectRefused

-- the command of the first word, where there is one; one that may not stand in a log is no change
abbrev pub replayed_as : Option Builtin → Keys → List (List ℕ) → Result Keys Refusal
replayed_as None keys words = Err Refusal.NotAnEffect
replayed_as (Some cmd) keys words =
    if (builtin_row cmd).writes then redone cmd keys words else Err Refusal.NotAnEffect

abbrev pub replay : Meaning
replay keys effect = replayed_as (builtin_named (word 0 effect.words)) keys effect.words
