-- Serves clauses step and replay of `limits_are_kept`.
use Rattle.std.proofs.Common.{◌≡◌, refl, sym, ap, subst, ◌∙◌, inl, inr, ℕ, zero, suc, Bool, true, false, if◌then◌else◌, List, [], ◌∷◌, length, Option, Some, None, Result, Ok, Err}
use Rattle.std.specs.List.{AllByRecursion}
use Rattle.std.specs.Option.{IfSome, option_map}
use Rattle.std.specs.Str.{str_eq_ignore_ascii_case}
use Rattle.core_types.specs.CommandRow.{MeetArity, takes}
use Rattle.sequences.specs.Words.{word}
use Rattle.core_types.specs.Keys.{Keys, Native, without}
use Rattle.core_types.specs.Keyspace.{IsKeyspace}
use Rattle.core_types.specs.declared.effect.Effect.{Effect}
use Rattle.core_types.specs.declared.event.Event.{Event}
use Rattle.core_types.specs.declared.reply.Reply.{Reply}
use Rattle.core_types.specs.declared.reply.Reply.TheVariants as reply
use Rattle.resp_codec.specs.Spelling.{IsRequest}
use Rattle.effect_log.specs.Refusal.{Refusal}
use Rattle.effect_log.specs.Unit.{IsLoggable, exec, is_named, multi}
use Rattle.key_store.specs.NextDue.{next_due}
use Rattle.string_cmds.specs.Commands as string_commands
use Rattle.core_types.specs.Limits.{IsSmallEffect, IsWithinLimits}
use Rattle.string_cmds.specs.declared.command.StringCmd.{StringCmd}
use Rattle.string_cmds.specs.declared.command.StringCmd.TheVariants as string
use Rattle.list_cmds.specs.Commands as list_commands
use Rattle.list_cmds.specs.declared.command.ListCmd.{ListCmd}
use Rattle.list_cmds.specs.declared.command.ListCmd.TheVariants as list
use Rattle.hash_cmds.specs.Commands as hash_commands
use Rattle.hash_cmds.specs.declared.command.HashCmd.{HashCmd}
use Rattle.hash_cmds.specs.declared.command.HashCmd.TheVariants as hash
use Rattle.key_cmds.specs.Commands.{command_row, key_row}
use Rattle.key_cmds.specs.Deadlines.{delete_effect, expired}
use Rattle.key_cmds.specs.Laws.{ChangesAtMostOnce, ExpiryKeepsLimits}
use Rattle.key_cmds.specs.Rows.{does}
use Rattle.key_cmds.specs.Run.{Run}
use Rattle.key_cmds.specs.declared.command.Command.{Command}
use Rattle.key_cmds.specs.declared.command.Command.TheVariants as command
use Rattle.key_cmds.specs.declared.command.KeyCmd.{KeyCmd}
use Rattle.key_cmds.specs.declared.command.KeyCmd.TheVariants as key
use Rattle.key_cmds.proofs.LimitsOfDue.{first_expired_kept}
use Rattle.key_cmds.proofs.LimitsOfKeys.{command_kept}
use Rattle.key_cmds.proofs.Remade.{remade}
use Rattle.host_core.specs.Builtins.{builtin_named, builtin_row}
use Rattle.host_core.specs.Connection.{connection_reply}
use Rattle.host_core.specs.Core.{IsServable}
use Rattle.host_core.specs.Expiry.{Expiry, after_one, expired_up_to}
use Rattle.host_core.specs.Laws.{KeepsLimits}
use Rattle.host_core.specs.Replay.{made_by, redone, replay, replayed_as, unless_error}
use Rattle.host_core.specs.Serving.{type_name}
use Rattle.host_core.specs.State.{State}
use Rattle.host_core.specs.declared.builtin.Builtin.{Builtin}
use Rattle.host_core.specs.declared.builtin.Builtin.TheVariants as builtin
use Rattle.host_core.proofs.StepKeys.{HoldsRuns, each_step}

-- ---- no command is named MULTI or EXEC

-- a name that neither opens nor closes a unit
abbrev IsApart : List ℕ → Type 0
IsApart name = (str_eq_ignore_ascii_case name multi ≡ false) × (str_eq_ignore_ascii_case name exec ≡ false)

key_apart : (cmd : KeyCmd) → IsApart (key_row cmd).name
key_apart key.Del = (refl, refl)
key_apart _ = (refl, refl)

string_apart : (cmd : StringCmd) → IsApart (string_commands.command_row cmd).name
string_apart string.Get = (refl, refl)
string_apart _ = (refl, refl)

list_apart : (cmd : ListCmd) → IsApart (list_commands.command_row cmd).name
list_apart list.LPush = (refl, refl)
list_apart _ = (refl, refl)

hash_apart : (cmd : HashCmd) → IsApart (hash_commands.command_row cmd).name
hash_apart hash.HSet = (refl, refl)
hash_apart _ = (refl, refl)

apart : (cmd : Command) → IsApart (command_row cmd).name
apart (command.Keys cmd) = key_apart cmd
apart (command.Str cmd) = string_apart cmd
apart (command.List cmd) = list_apart cmd
apart (command.Hash cmd) = hash_apart cmd

not_named : (name other : List ℕ) (words : List (List ℕ)) → word 0 words ≡ name → str_eq_ignore_ascii_case name other ≡ false → is_named other words ≡ false
unfolding word
not_named name other [] named differs = refl
not_named name other (first ∷ rest) named differs = ap (λ w. str_eq_ignore_ascii_case w other) named ∙ differs

loggable : (effect : Effect) (cmd : Command) → word 0 effect.words ≡ (command_row cmd).name → IsSmallEffect effect → IsLoggable effect
loggable effect cmd named small =
    record {
      request = record { some = small.some; few = small.few; each = small.each };
      opens_none = not_named (command_row cmd).name multi effect.words named (apart cmd).0;
      closes_none = not_named (command_row cmd).name exec effect.words named (apart cmd).1;
    }

delete_loggable : (name : List ℕ) → IsSmallEffect (delete_effect name) → IsLoggable (delete_effect name)
unfolding word
delete_loggable name small = loggable (delete_effect name) (command.Keys key.Del) refl small

run_loggable : (keys : Keys) (run : Run Native) → ChangesAtMostOnce type_name keys run → AllByRecursion IsSmallEffect run.effects → AllByRecursion IsLoggable run.effects
run_loggable keys run (inl nothing) small = subst (AllByRecursion IsLoggable) (sym nothing.effects) tt
run_loggable keys run (inr once) small =
    let one = subst (AllByRecursion IsSmallEffect) once.effects small in
    subst (AllByRecursion IsLoggable) (sym once.effects) (loggable once.effect once.remakes.cmd once.remakes.named one.0, tt)

for_command : (words : List (List ℕ)) → IsRequest words → IsWithinLimits words
for_command words h = record { some = h.some; few = h.few; each = h.each }

module _ (allowed : Native → Bool) where
  -- ---- a step

  -- the keys are such as they may be, and a log can hold each change
  record IsKept (keys : Keys) (effects : List Effect) : Type 0 where
    keyspace : IsKeyspace allowed keys
    loggables : AllByRecursion IsLoggable effects

  run_kept : (state : State) (words : List (List ℕ)) → IsRequest words → IsKeyspace allowed state.keys → HoldsRuns IsKept state words
  run_kept state words request is cmd arity =
      let kept = command_kept allowed type_name state.moment cmd state.keys words arity is (for_command words request) in
      record {
        keyspace = kept.keys;
        loggables = run_loggable state.keys (does type_name state.moment cmd state.keys words) (remade type_name state.moment cmd state.keys words arity) kept.effects;
      }

  abbrev IsExpiryKept : Expiry → Type 0
  IsExpiryKept expiry = IsKept expiry.keys expiry.effects

  expiry_kept : (count moment : ℕ) (keys : Keys) → IsKeyspace allowed keys → IsExpiryKept (expired_up_to count moment keys)
  expiry_kept zero moment keys is = record { keyspace = is; loggables = tt }
  expiry_kept (suc count) moment keys is =
      by (next_due keys moment) (first_expired_kept allowed moment keys is) (λ left left_is. expiry_kept count moment left left_is)
    where
      by : (next : Option (List ℕ)) → IfSome (option_map (λ key. expired key keys) next) (λ removal. ExpiryKeepsLimits allowed removal)
          → ((left : Keys) → IsKeyspace allowed left → IsExpiryKept (expired_up_to count moment left))
          → IsExpiryKept (after_one keys (option_map (λ key. expired key keys) next) (expired_up_to count moment))
      by None first more = record { keyspace = is; loggables = tt }
      by (Some key) first more =
          let rest = more (without keys key) first.keys in
          record { keyspace = rest.keyspace; loggables = (delete_loggable key first.effect, rest.loggables) }

  pub step_kept : (state : State) (happens : Event) → IsServable happens → IsKeyspace allowed state.keys → KeepsLimits allowed state happens
  step_kept state happens servable is =
      let kept = each_step IsKept state (record { keyspace = is; loggables = tt }) happens
      (λ client words same. run_kept state words (subst IsServable same servable) is)
      (λ moment. expiry_kept _ moment state.keys is) in
      record { keys = kept.keyspace; effects = kept.loggables }

  -- ---- a change in a log

  module _ (keys after : Keys) (words : List (List ℕ)) (request : IsRequest words) (is : IsKeyspace allowed keys) where
    accepted_kept : (said : Reply) (made : Keys) → IsKeyspace allowed made → unless_error said made ≡ Ok after → IsKeyspace allowed after
    accepted_kept (reply.Error text) made made_is ok = cc
    accepted_kept _ made made_is ok = let same : made ≡ after = cc in subst (IsKeyspace allowed) same made_is

    made_kept : (cmd : Builtin) → MeetArity (builtin_row cmd) words → made_by cmd keys words ≡ Ok after → IsKeyspace allowed after
    made_kept (builtin.Connection cmd) arity ok = accepted_kept (connection_reply cmd words) keys is ok
    made_kept (builtin.Keys cmd) arity ok =
        let run = does type_name 0 cmd keys words in
        accepted_kept run.reply run.keys (command_kept allowed type_name 0 cmd keys words arity is (for_command words request)).keys ok

    if_ok : (b : Bool) (made : Result Keys Refusal) (why : Refusal) → (b ≡ true → made ≡ Ok after → IsKeyspace allowed after) → (if b then made else Err why) ≡ Ok after → IsKeyspace allowed after
    if_ok true made why kept ok = kept refl ok
    if_ok false made why kept ok = cc

    named_kept : (named : Option Builtin) → replayed_as named keys words ≡ Ok after → IsKeyspace allowed after
    named_kept None ok = cc
    named_kept (Some cmd) ok =
        if_ok (builtin_row cmd).writes (redone cmd keys words) Refusal.NotAnEffect
        (λ writes. if_ok (takes (builtin_row cmd).arity (length words)) (made_by cmd keys words) Refusal.EffectRefused (made_kept cmd)) ok

  pub replay_kept : (keys : Keys) (effect : Effect) (after : Keys) → IsRequest effect.words → IsKeyspace allowed keys → replay keys effect ≡ Ok after → IsKeyspace allowed after
  replay_kept keys effect after request is ok = named_kept keys after effect.words request is (builtin_named (word 0 effect.words)) ok
