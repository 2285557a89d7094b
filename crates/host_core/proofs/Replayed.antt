-- Serves the clauses of `replay`: a change of a log that is made again.
use Rattle.std.proofs.Common.{◌≡◌, refl, sym, ap, ◌∙◌, ℕ, true, false, if◌then◌else◌, List, length, Some, Result, Ok, Err}
use Rattle.std.proofs.lemmas.Bool.{false≢true}
use Rattle.core_types.specs.CommandRow.{MeetArity, takes}
use Rattle.sequences.specs.Words.{word}
use Rattle.core_types.specs.Keys.{Keys}
use Rattle.core_types.specs.declared.effect.Effect.{Effect}
use Rattle.core_types.specs.declared.reply.Reply.{Reply}
use Rattle.core_types.specs.declared.reply.Reply.TheVariants as reply
use Rattle.client_book.specs.Register.{Roll, nobody, roll_of}
use Rattle.effect_log.specs.Refusal.{Refusal, reason_of}
use Rattle.effect_log.specs.Replay.{Refuses}
use Rattle.effect_log.specs.declared.reason.Reason.{Reason}
use Rattle.effect_log.specs.declared.reason.Reason.TheVariants as reason
use Rattle.effect_log.specs.declared.replayer.ReplayStop.{ReplayStop}
use Rattle.effect_log.specs.declared.replayer.ReplayStop.TheVariants as stops
use Rattle.core_types.specs.Refusals.{IsRefusal}
use Rattle.key_cmds.proofs.Remade.{remade}
use Rattle.key_cmds.proofs.SeveralRemade.{refused_nothing}
use Rattle.key_cmds.specs.Rows.{does}
use Rattle.host_core.specs.Builtins.{builtin_named, builtin_row}
use Rattle.host_core.specs.Replay.{made_by, redone, replay, replayed_as, unless_error}
use Rattle.host_core.specs.Serving.{served_by, type_name}
use Rattle.host_core.specs.State.{Served}
use Rattle.host_core.specs.declared.builtin.Builtin.{Builtin}
use Rattle.host_core.specs.declared.builtin.Builtin.TheVariants as builtin
use Rattle.host_core.specs.declared.connection.ConnectionCmd.{ConnectionCmd}
use Rattle.host_core.specs.declared.connection.ConnectionCmd.TheVariants as connection
use Rattle.host_core.specs.declared.given.Given.{Given}
use Rattle.host_core.specs.inner.Giving.{IsGiven, is_error, state_with}

somebody : Roll
somebody = roll_of nobody

-- what a command makes of the keys is what serving it makes of them at moment 0
made_served : (cmd : Builtin) (keys : Keys) (words : List (List ℕ)) (roll : Roll)
    → made_by cmd keys words ≡ unless_error (served_by cmd 0 words (state_with 0 keys roll)).reply (served_by cmd 0 words (state_with 0 keys roll)).state.keys
made_served (builtin.Keys cmd) keys words roll = refl
made_served (builtin.Connection connection.Ping) keys words roll = refl
made_served (builtin.Connection connection.Echo) keys words roll = refl
made_served (builtin.Connection connection.Select) keys words roll = refl
made_served (builtin.Connection connection.Quit) keys words roll = refl
made_served (builtin.Connection connection.Command) keys words roll = refl

module _ (keys : Keys) (effect : Effect) (cmd : Builtin) (named : builtin_named (word 0 effect.words) ≡ Some cmd) where
  pub not_written : (builtin_row cmd).writes ≡ false → replay keys effect ≡ Err Refusal.NotAnEffect
  not_written is = ap (λ o. replayed_as o keys effect.words) named ∙ ap (λ b. if b then redone cmd keys effect.words else Err Refusal.NotAnEffect) is

  again : (builtin_row cmd).writes ≡ true → replay keys effect ≡ redone cmd keys effect.words
  again is = ap (λ o. replayed_as o keys effect.words) named ∙ ap (λ b. if b then redone cmd keys effect.words else Err Refusal.NotAnEffect) is

  pub not_taken : (builtin_row cmd).writes ≡ true → takes (builtin_row cmd).arity (length effect.words) ≡ false → replay keys effect ≡ Err Refusal.EffectRefused
  not_taken writes is = again writes ∙ ap (λ b. if b then made_by cmd keys effect.words else Err Refusal.EffectRefused) is

  pub made : (builtin_row cmd).writes ≡ true → takes (builtin_row cmd).arity (length effect.words) ≡ true → (after : Keys) (given : Given)
      → IsGiven (λ client state. served_by cmd client effect.words state) 0 keys after given → replay keys effect ≡ unless_error given.reply after
  made writes taken after given is =
      again writes ∙ ap (λ b. if b then made_by cmd keys effect.words else Err Refusal.EffectRefused) taken
      ∙ made_served cmd keys effect.words somebody ∙ ap (λ (s : Served). unless_error s.reply s.state.keys) (is 0 somebody)

pub error_refused : (said : Reply) (keys : Keys) → is_error said ≡ true → unless_error said keys ≡ Err Refusal.EffectRefused
error_refused (reply.Error text) keys is = refl
error_refused (reply.Simple text) keys is = absurd (false≢true is)
error_refused (reply.Int n) keys is = absurd (false≢true is)
error_refused (reply.Bulk bytes) keys is = absurd (false≢true is)
error_refused reply.Null keys is = absurd (false≢true is)
error_refused (reply.Array replies) keys is = absurd (false≢true is)
error_refused reply.NullArray keys is = absurd (false≢true is)

pub others_made : (said : Reply) (keys : Keys) → is_error said ≡ false → unless_error said keys ≡ Ok keys
others_made (reply.Error text) keys is = absurd (false≢true (sym is))
others_made (reply.Simple text) keys is = refl
others_made (reply.Int n) keys is = refl
others_made (reply.Bulk bytes) keys is = refl
others_made reply.Null keys is = refl
others_made (reply.Array replies) keys is = refl
others_made reply.NullArray keys is = refl

is_refusal : (said : Reply) → is_error said ≡ true → IsRefusal said
is_refusal (reply.Error text) is = (text, refl)
is_refusal (reply.Simple text) is = absurd (false≢true is)
is_refusal (reply.Int n) is = absurd (false≢true is)
is_refusal (reply.Bulk bytes) is = absurd (false≢true is)
is_refusal reply.Null is = absurd (false≢true is)
is_refusal (reply.Array replies) is = absurd (false≢true is)
is_refusal reply.NullArray is = absurd (false≢true is)

connection_keeps : (cmd : ConnectionCmd) (keys : Keys) (words : List (List ℕ)) (roll : Roll) → (served_by (builtin.Connection cmd) 0 words (state_with 0 keys roll)).state.keys ≡ keys
connection_keeps connection.Ping keys words roll = refl
connection_keeps connection.Echo keys words roll = refl
connection_keeps connection.Select keys words roll = refl
connection_keeps connection.Quit keys words roll = refl
connection_keeps connection.Command keys words roll = refl

-- a command that is answered by an error keeps the keys
pub error_keeps : (cmd : Builtin) (keys after : Keys) (words : List (List ℕ)) (given : Given) → MeetArity (builtin_row cmd) words
    → IsGiven (λ client state. served_by cmd client words state) 0 keys after given → is_error given.reply ≡ true → after ≡ keys
error_keeps (builtin.Connection cmd) keys after words given arity is error =
    sym (ap (λ (s : Served). s.state.keys) (is 0 somebody)) ∙ connection_keeps cmd keys words somebody
error_keeps (builtin.Keys cmd) keys after words given arity is error =
    let run = does type_name 0 cmd keys words in
    let said : run.reply ≡ given.reply = ap (λ (s : Served). s.reply) (is 0 somebody) in
    let nothing = refused_nothing type_name keys run (remade type_name 0 cmd keys words arity) (is_refusal run.reply (ap is_error said ∙ error)) in
    sym (ap (λ (s : Served). s.state.keys) (is 0 somebody)) ∙ nothing.same

place_in : Result (Unit {0}) ReplayStop → ℕ
place_in (Err (stops.Refused place why)) = place
place_in _ = 0

reason_in : Result (Unit {0}) ReplayStop → Reason
reason_in (Err (stops.Refused place why)) = why
reason_in _ = reason.NotAnEffect

pub refused_as : (keys : Keys) (effect : Effect) (refusal : Refusal) → replay keys effect ≡ Err refusal
    → (place : ℕ) (why : Reason) → ◌≡◌ {A = Result (Unit {0}) ReplayStop} (Err (stops.Refused 0 (reason_of refusal))) (Err (stops.Refused place why)) → (place ≡ 0) × Refuses replay keys effect why
unfolding place_in reason_in
refused_as keys effect refusal nothing place why is =
    (sym (ap place_in is), record { refusal = refusal; nothing = nothing; reason = sym (ap reason_in is) })
