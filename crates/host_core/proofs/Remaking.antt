-- Serves clause keys of `effects_make_the_keys`: the changes that a step tells make its keys of
-- those before.
use Rattle.std.proofs.Common.{◌≡◌, refl, sym, ap, ◌∙◌, inl, inr, ℕ, zero, suc, true, if◌then◌else◌, List, [], Option, Some, None, Ok, Err}
use Rattle.std.specs.Option.{option_map}
use Rattle.core_types.specs.CommandRow.{MeetArity}
use Rattle.sequences.specs.Words.{word}
use Rattle.core_types.specs.Keys.{Keys, Native, without}
use Rattle.core_types.specs.declared.effect.Effect.{Effect}
use Rattle.core_types.specs.declared.event.Event.{Event}
use Rattle.core_types.specs.declared.reply.Reply.{Reply}
use Rattle.core_types.specs.declared.reply.Reply.TheVariants as reply
use Rattle.effect_log.specs.Refusal.{Refusal}
use Rattle.effect_log.specs.Replay.{and_then, replayed}
use Rattle.key_store.specs.NextDue.{next_due}
use Rattle.key_cmds.specs.Commands.{command_row}
use Rattle.key_cmds.specs.Deadlines.{delete_effect, expired}
use Rattle.core_types.specs.Refusals.{IsRefusal}
use Rattle.key_cmds.specs.Laws.{ChangesAtMostOnce, Remakes}
use Rattle.key_cmds.specs.Rows.{does}
use Rattle.key_cmds.specs.Run.{Run}
use Rattle.key_cmds.specs.declared.command.Command.{Command}
use Rattle.key_cmds.specs.declared.command.Command.TheVariants as command
use Rattle.key_cmds.specs.declared.command.KeyCmd.TheVariants as key
use Rattle.key_cmds.proofs.Remade.{remade}
use Rattle.key_cmds.proofs.Removing.{removed_keys}
use Rattle.host_core.specs.Builtins.{builtin_named}
use Rattle.host_core.specs.Expiry.{after_one, expired_up_to}
use Rattle.host_core.specs.Laws.{RemakesKeys}
use Rattle.host_core.specs.Replay.{made_by, redone, replay, replayed_as, unless_error}
use Rattle.host_core.specs.Serving.{type_name}
use Rattle.host_core.specs.State.{State}
use Rattle.host_core.specs.declared.builtin.Builtin.TheVariants as builtin
use Rattle.host_core.proofs.BuiltinNames.{found}
use Rattle.host_core.proofs.StepKeys.{each_step}

-- ---- one change

accepted_keys : (said : Reply) (keys : Keys) → ¬ IsRefusal said → unless_error said keys ≡ Ok keys
accepted_keys (reply.Error text) keys accepted = absurd (accepted (text, refl))
accepted_keys _ keys accepted = refl

-- a change that is a command on the keys is that command, at moment 0
redone_as : (cmd : Command) (keys : Keys) (effect : Effect) → word 0 effect.words ≡ (command_row cmd).name → (command_row cmd).writes ≡ true → MeetArity (command_row cmd) effect.words
    → replay keys effect ≡ made_by (builtin.Keys cmd) keys effect.words
redone_as cmd keys effect named writes arity =
    ap (λ name. replayed_as (builtin_named name) keys effect.words) named
    ∙ ap (λ o. replayed_as o keys effect.words) (found (builtin.Keys cmd))
    ∙ ap (λ b. if b then redone (builtin.Keys cmd) keys effect.words else Err Refusal.NotAnEffect) writes
    ∙ ap (λ b. if b then made_by (builtin.Keys cmd) keys effect.words else Err Refusal.EffectRefused) arity

makes_again : (keys after : Keys) (effect : Effect) → Remakes type_name keys after effect → replay keys effect ≡ Ok after
makes_again keys after effect remakes =
    let run = does type_name 0 remakes.cmd keys effect.words in
    redone_as remakes.cmd keys effect remakes.named remakes.writes remakes.arity ∙ accepted_keys run.reply run.keys remakes.accepted ∙ ap Ok remakes.again

deletes_again : (keys : Keys) (name : List ℕ) → replay keys (delete_effect name) ≡ Ok (without keys name)
unfolding word
deletes_again keys name = redone_as (command.Keys key.Del) keys (delete_effect name) refl refl refl ∙ ap Ok (removed_keys name [] keys)

-- ---- those of a command, and those of the keys that are due

abbrev AreMade : Keys → Keys → List Effect → Type 0
AreMade before after effects = replayed replay before effects ≡ Ok after

run_remade : (keys : Keys) (run : Run Native) → ChangesAtMostOnce type_name keys run → AreMade keys run.keys run.effects
run_remade keys run (inl nothing) = ap (replayed replay keys) nothing.effects ∙ ap Ok (sym nothing.same)
run_remade keys run (inr once) =
    ap (replayed replay keys) once.effects ∙ ap (λ made. and_then made (λ left. Ok left)) (makes_again keys run.keys once.effect once.remakes)

expiry_remade : (count moment : ℕ) (keys : Keys) → AreMade keys (expired_up_to count moment keys).keys (expired_up_to count moment keys).effects
expiry_remade zero moment keys = refl
expiry_remade (suc count) moment keys = by (next_due keys moment) (λ left. expiry_remade count moment left)
  where
    by : (next : Option (List ℕ)) → ((left : Keys) → AreMade left (expired_up_to count moment left).keys (expired_up_to count moment left).effects)
        → AreMade keys (after_one keys (option_map (λ key. expired key keys) next) (expired_up_to count moment)).keys (after_one keys (option_map (λ key. expired key keys) next) (expired_up_to count moment)).effects
    by None more = refl
    by (Some key) more =
        let rest = expired_up_to count moment (without keys key) in
        ap (λ made. and_then made (λ left. replayed replay left rest.effects)) (deletes_again keys key) ∙ more (without keys key)

pub step_remade : (state : State) (happens : Event) → RemakesKeys state happens
step_remade state happens =
    each_step (λ after effects. AreMade state.keys after effects) state refl happens
    (λ client words same cmd arity. run_remade state.keys (does type_name state.moment cmd state.keys words) (remade type_name state.moment cmd state.keys words arity))
    (λ moment. expiry_remade _ moment state.keys)
