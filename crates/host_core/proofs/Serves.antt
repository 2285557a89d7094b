-- Serves clause given of `serve`, `serve_connection` and `serve_keys`.
use Rattle.std.proofs.Common.{◌≡◌, refl, sym, ap, ◌∙◌, ℕ, true, false, if◌then◌else◌, List, [], length, Some, None}
use Rattle.core_types.specs.CommandRow.{takes}
use Rattle.sequences.specs.Words.{word}
use Rattle.core_types.specs.Keys.{Keys}
use Rattle.core_types.specs.Refusals.{unknown_command, wrong_arity}
use Rattle.core_types.specs.declared.effect.Effect.{Effect}
use Rattle.core_types.specs.declared.reply.Reply.{Reply}
use Rattle.key_cmds.specs.Rows.{does}
use Rattle.key_cmds.specs.declared.command.Command.{Command}
use Rattle.host_core.specs.Builtins.{builtin_named, builtin_row}
use Rattle.host_core.specs.Connection.{connection_reply}
use Rattle.host_core.specs.Serving.{served, served_as, served_by, type_name}
use Rattle.host_core.specs.State.{replies}
use Rattle.host_core.specs.declared.builtin.Builtin.{Builtin}
use Rattle.host_core.specs.declared.builtin.Builtin.TheVariants as builtin
use Rattle.host_core.specs.declared.connection.ConnectionCmd.{ConnectionCmd}
use Rattle.host_core.specs.declared.connection.ConnectionCmd.TheVariants as connection
use Rattle.host_core.specs.declared.given.Given.{Given}
use Rattle.host_core.specs.inner.Giving.{IsGiven, is_quit, state_with}

abbrev says : Reply → Given
says reply = record { reply = reply; effects = []; closes = false }

module _ (words : List (List ℕ)) (moment : ℕ) where
  abbrev IsServed : Keys → Keys → Given → Type 0
  IsServed before after given = IsGiven (λ client state. served client words state) moment before after given

  pub unknown_given : (keys : Keys) → builtin_named (word 0 words) ≡ None → IsServed keys keys (says (unknown_command (word 0 words)))
  unknown_given keys none client roll = ap (λ o. served_as o client words (state_with moment keys roll)) none

  pub arity_given : (keys : Keys) (cmd : Builtin) → builtin_named (word 0 words) ≡ Some cmd → takes (builtin_row cmd).arity (length words) ≡ false
      → IsServed keys keys (says (wrong_arity (word 0 words)))
  arity_given keys cmd named refused client roll =
      let state = state_with moment keys roll in
      ap (λ o. served_as o client words state) named
      ∙ ap (λ b. if b then served_by cmd client words state else replies (wrong_arity (word 0 words)) state) refused

  pub by_given : (before after : Keys) (cmd : Builtin) (given : Given) → builtin_named (word 0 words) ≡ Some cmd → takes (builtin_row cmd).arity (length words) ≡ true
      → IsGiven (λ client state. served_by cmd client words state) moment before after given → IsServed before after given
  by_given before after cmd given named taken is_given client roll =
      let state = state_with moment before roll in
      ap (λ o. served_as o client words state) named
      ∙ ap (λ b. if b then served_by cmd client words state else replies (wrong_arity (word 0 words)) state) taken
      ∙ is_given client roll

  pub connection_given : (cmd : ConnectionCmd) (keys : Keys)
      → IsGiven (λ client state. served_by (builtin.Connection cmd) client words state) moment keys keys (record { reply = connection_reply cmd words; effects = []; closes = is_quit cmd })
  connection_given connection.Ping keys client roll = refl
  connection_given connection.Echo keys client roll = refl
  connection_given connection.Select keys client roll = refl
  connection_given connection.Quit keys client roll = refl
  connection_given connection.Command keys client roll = refl

  pub keys_given : (cmd : Command) (before after : Keys) (reply : Reply) (effects : List Effect)
      → after ≡ (does type_name moment cmd before words).keys → reply ≡ (does type_name moment cmd before words).reply → effects ≡ (does type_name moment cmd before words).effects
      → IsGiven (λ client state. served_by (builtin.Keys cmd) client words state) moment before after (record { reply = reply; effects = effects; closes = false })
  keys_given cmd before after reply effects keys_are reply_is effects_are client roll =
      λ i. record { state = state_with moment (sym keys_are i) roll; reply = sym reply_is i; effects = sym effects_are i }
