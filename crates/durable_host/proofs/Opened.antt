-- Serves clauses begins and kept of `DurableHost::start`: the parts of a host that begins.
use Rattle.std.specs.Prelude.{⊤}
use Rattle.std.proofs.Common.{◌≡◌, refl, sym, ap, subst, ◌∙◌, ℕ, List, [], ◌∷◌, length, append-nil, Option, Some, None, IfSome, Result, Ok, Err, arith}
use Rattle.std.specs.List.{AllByRecursion}
use Rattle.std.specs.Option.{option_map}
use Rattle.std.specs.Cmp.Lexicographic.{slice_cmp}
use Rattle.std.specs.Ordering.{nat_cmp}
use Rattle.std.specs.FinMap.{get-empty}
use Rattle.std.proofs.lemmas.Option.{none-some}
use Rattle.core_types.specs.Keys.{Keys, no_keys}
use Rattle.core_types.specs.Keyspace.{IsKeyspace}
use Rattle.core_types.specs.declared.effect.Effect.{Effect}
use Rattle.disk_model.specs.Disk.{Disk}
use Rattle.disk_model.specs.Files.{Files, Become, with_file}
use Rattle.disk_model.specs.Safe.{IsSafe, IsSafeUpTo}
use Rattle.disk_model.specs.Told.{Told, disk_told, files_told}
use Rattle.disk_model.specs.declared.file_name.FileName.TheVariants.{Log}
use Rattle.disk_model.proofs.Safe.{safe_up_to}
use Rattle.effect_log.specs.Log.{IsUnit, Unit}
use Rattle.effect_log.specs.Refusal.{Refusal}
use Rattle.effect_log.specs.Replay.{Holds, and_then, effects_of, replayed}
use Rattle.effect_log.specs.Unit.{IsLoggable}
use Rattle.restart.specs.OpenLog.{HasOpened}
use Rattle.restart.specs.declared.opening.Opened.{Opened}
use Rattle.client_book.specs.Register.{Listed, listed, nobody, roll_of}
use Rattle.host_core.specs.Core.{Held, state_of}
use Rattle.host_core.specs.Replay.{replay}
use Rattle.host_core.proofs.KeptLimits.{replay_kept}
use Rattle.host_core.specs.Clients.{client_at}
use Rattle.host_core.proofs.Rolls.{roll_at}
use Rattle.client_book.specs.declared.client.Client.{Client}
use Rattle.durable_host.specs.Holding.{holding}
use Rattle.durable_host.specs.Host.{AreFreed, HasLength}
use Rattle.durable_host.specs.Kept.{Kept, from_opening, state_now}
use Rattle.durable_host.specs.Taking.{IsButTaken, SameButTaken}
use Rattle.core_types.specs.declared.event.Event.{Event}
use Rattle.durable_host.specs.declared.loading.Loaded.{Loaded}
use Rattle.durable_host.specs.declared.parts.Parts.{Parts}
use Rattle.durable_host.specs.inner.Making.{Loads}
use Rattle.durable_host.specs.inner.Running.{AreFronts, IsHistory, IsRunning, LogHolds, any_native, kept_of}
use Rattle.durable_host.proofs.Histories.{join_all}
use Rattle.durable_host.proofs.Texts.{text_none}

-- ---- what a log makes of no keys is a keyspace

none_limits : IsKeyspace any_native no_keys
none_limits key entry there = absurd (none-some entry (sym (get-empty (slice_cmp nat_cmp) key) ∙ there))

-- what holds of the keys that something made
abbrev HasLimits : Result Keys Refusal → Type 0
HasLimits (Ok keys) = IsKeyspace any_native keys
HasLimits (Err why) = ⊤

abbrev IsMade : Result Keys Refusal → Type 0
IsMade (Ok keys) = ⊤
IsMade (Err why) = ⊥

-- an effect, and what follows
one_limits : (effect : Effect) (more : List Effect) (keys then : Keys) → IsLoggable effect → IsKeyspace any_native keys
    → ((next : Keys) → IsKeyspace any_native next → replayed replay next more ≡ Ok then → IsKeyspace any_native then)
    → (r : Result Keys Refusal) → replay keys effect ≡ r → and_then r (λ next. replayed replay next more) ≡ Ok then → IsKeyspace any_native then
one_limits effect more keys then loggable limits on (Ok next) is made = on next (replay_kept any_native keys effect next loggable.request limits is) made
one_limits effect more keys then loggable limits on (Err why) is made = absurd (subst IsMade (sym made) tt)

effects_limits : (effects : List Effect) (keys then : Keys) → AllByRecursion IsLoggable effects → IsKeyspace any_native keys → replayed replay keys effects ≡ Ok then → IsKeyspace any_native then
effects_limits [] keys then each limits made = subst HasLimits made limits
effects_limits (effect ∷ more) keys then each limits made =
    one_limits effect more keys then each.0 limits (λ next kept on. effects_limits more next then each.1 kept on) (replay keys effect) refl made

units_loggable : (units : List Unit) → AllByRecursion IsUnit units → AllByRecursion IsLoggable (effects_of units)
units_loggable [] each = tt
units_loggable (u ∷ more) each = join_all IsLoggable u.effects (effects_of more) each.0.each (units_loggable more each.1)

log_limits : (bytes : List ℕ) (keys : Keys) (kept : ℕ) → Holds replay bytes keys kept → IsKeyspace any_native keys
log_limits bytes keys kept holds = effects_limits (effects_of holds.units) no_keys keys (units_loggable holds.units holds.holds.each) none_limits holds.makes

-- ---- nobody joined yet

pub nobody_listed : (c : ℕ) → listed nobody c ≡ None
nobody_listed c = get-empty nat_cmp c

pub nobody_there : (c : ℕ) → client_at (roll_of nobody) c ≡ None
nobody_there c = roll_at nobody c ∙ ap (option_map (λ (entry : Listed). entry.client)) (nobody_listed c)

none_taken : (o : Option Client) → o ≡ None → IsButTaken o o
none_taken o none = rw none tt

-- what was loaded is where a history begins
pub begun_kept : (loaded : Loaded) (events : List Event) (old new : Told) → Loads old new loaded → events ≡ []
    → (record { first = 0; opening = loaded.opening; events = events }) ≡ from_opening (state_of (holding loaded.core.keys))
begun_kept loaded events old new loads none =
    ap (λ events. record { first = 0; opening = loaded.opening; events = events }) none
    ∙ ap (λ opening. record { first = 0; opening = opening; events = [] }) (loads.opening ∙ ap state_of loads.core)

-- ---- the parts

begun_history : (keys : Keys) → IsKeyspace any_native keys → IsHistory (from_opening (state_of (holding keys))) 0
begun_history keys limits = record {
  counted = omega arith;
  begun = omega arith;
  reached = omega arith;
  joined = λ c above. nobody_there c;
  limits = limits;
  loggable = tt;
}

begun_core : (keys : Keys) → SameButTaken (state_of (holding keys)) (state_of (holding keys))
begun_core keys = record { keys = refl; moment = refl; last = refl; each = λ c. none_taken (client_at (roll_of nobody) c) (nobody_there c) }

up_to : (bytes : List ℕ) (disk : Option Disk) → IfSome disk (IsSafe Log bytes) → IfSome disk (IsSafeUpTo Log bytes [])
up_to bytes None safe = tt
up_to bytes (Some disk) safe = safe_up_to Log bytes disk safe

log_length_is : (bytes : List ℕ) (size : ℕ) (old new : Option Files) → size ≡ length bytes → Become (with_file Log bytes) old new → IfSome new (λ files. IfSome files.log (λ log. length log ≡ size))
log_length_is bytes size None new same become = rw become tt
log_length_is bytes size (Some files) new same become = rw become (sym same)

module _ {D : Type 0} (told : D → Told) (old : Told) (parts : Parts D) (keys : Keys) (opened : Opened)
    (opens : HasOpened replay old (told parts.dir) keys opened)
    (kept : kept_of parts ≡ from_opening (state_of (holding keys)))
    (safe : parts.safe ≡ 0)
    (core : parts.core ≡ holding keys)
    (size : parts.log_length ≡ opened.kept) where
  begun_log : LogHolds (from_opening (state_of (holding keys))) 0 (told parts.dir)
  begun_log = record {
    base = opens.finds.opening.log;
    holds = opens.stands;
    log = rw (text_none (state_of (holding keys)), append-nil opens.finds.opening.log) (up_to opens.finds.opening.log (disk_told (told parts.dir)) opens.safe);
  }

  at_begun : (P : Kept → ℕ → Type 0) → P (from_opening (state_of (holding keys))) 0 → P (kept_of parts) parts.safe
  at_begun P holds = subst (λ k. P k parts.safe) (sym kept) (subst (P (from_opening (state_of (holding keys)))) (sym safe) holds)

  pub begun_running : IsRunning told parts
  begun_running = record {
    history = at_begun IsHistory (begun_history keys (log_limits opens.finds.opening.log keys (length opens.finds.opening.log) opens.stands));
    core = at_begun (λ k n. SameButTaken (state_now k) (state_of parts.core)) (subst (λ (held : Held). SameButTaken (state_of (holding keys)) (state_of held)) (sym core) (begun_core keys));
    freed = subst (λ (held : Held). AreFreed (kept_of parts) parts.safe held.register) (sym core) (λ c. rw (nobody_listed c) tt);
    fronts = subst (λ (held : Held). AreFronts held.register) (sym core) (λ c. rw (nobody_listed c) tt);
    log = at_begun (λ k n. LogHolds k n (told parts.dir)) begun_log;
    length = subst (λ n. HasLength n (told parts.dir)) (sym size) (log_length_is opens.finds.opening.log opened.kept (files_told old) (files_told (told parts.dir)) opens.finds.lengths.kept opens.log);
  }
