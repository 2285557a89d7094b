-- Serves clauses kept and crash of `DurableHost::step`: the kept events, and one more.
use Rattle.std.proofs.Common.{◌≡◌, ◌≤◌, ◌<◌, sym, ap, subst, ◌∙◌, ℕ, zero, suc, ◌+◌, ◌-◌, ◌^◌, List, [], ◌∷◌, ◌++◌, length, take, drop, length-append, length-drop, take_all, arith}
use Rattle.std.specs.List.{AllByRecursion}
use Rattle.std.proofs.lemmas.List.{append_assoc, drop-append-le, take-append-drop, take-append-le}
use Rattle.std.proofs.Math.Seq.{drop-nil, take-add}
use Rattle.core_types.specs.declared.effect.Effect.{Effect}
use Rattle.core_types.specs.declared.event.Event.{Event}
use Rattle.disk_model.specs.Files.{Files}
use Rattle.disk_model.specs.Runs.{MayLeave}
use Rattle.disk_model.specs.Safe.{HasFront, IsSafeUpTo}
use Rattle.disk_model.specs.Told.{Told, disk_told}
use Rattle.disk_model.specs.declared.file_name.FileName.TheVariants.{Log}
use Rattle.disk_model.proofs.Moments.{may_leave}
use Rattle.disk_model.proofs.Safe.{safe_leaves}
use Rattle.effect_log.specs.Replay.{Holds}
use Rattle.effect_log.specs.Unit.{IsLoggable, unit}
use Rattle.effect_log.specs.Written.{AreLoggable}
use Rattle.restart.proofs.Crash.{log_restarts}
use Rattle.host_core.specs.Core.{IsServable}
use Rattle.host_core.specs.Events.{step}
use Rattle.host_core.specs.Fold as fold
use Rattle.host_core.specs.Laws.{AllJoined}
use Rattle.host_core.specs.Replay.{replay}
use Rattle.host_core.specs.State.{State}
use Rattle.host_core.proofs.Folds.{goes_on}
use Rattle.host_core.proofs.KeptLimits.{step_kept}
use Rattle.host_core.proofs.Steps.{stay_joined}
use Rattle.durable_host.specs.Crash.{HoldsFrom}
use Rattle.durable_host.specs.Kept.{Kept, changes_of, event_count, state_after, state_now, with_event}
use Rattle.durable_host.specs.inner.Running.{IsHistory, LogHolds, any_native, text_from}
use Rattle.durable_host.proofs.Texts.{after_all, cut_short, text_join, text_none, text_one}

split_front : {X : Type 0} (P : X → Type 0) (xs ys : List X) → AllByRecursion P (xs ++ ys) → AllByRecursion P xs
split_front P [] ys all = tt
split_front P (x ∷ xs) ys all = (all.0, split_front P xs ys all.1)

split_back : {X : Type 0} (P : X → Type 0) (xs ys : List X) → AllByRecursion P (xs ++ ys) → AllByRecursion P ys
split_back P [] ys all = all
split_back P (x ∷ xs) ys all = split_back P xs ys all.1

pub join_all : {X : Type 0} (P : X → Type 0) (xs ys : List X) → AllByRecursion P xs → AllByRecursion P ys → AllByRecursion P (xs ++ ys)
join_all P [] ys front back = back
join_all P (x ∷ xs) ys front back = (front.0, join_all P xs ys front.1 back)

abbrev CanLog : List Effect → Type 0
CanLog effects = AllByRecursion IsLoggable effects

-- the number of kept events that are safe
abbrev pub safe_kept : ℕ → Kept → ℕ
safe_kept safe kept = safe - kept.first

-- what the safe events wrote, and what came since
abbrev pub synced_text : ℕ → Kept → List ℕ
synced_text safe kept = text_from kept.opening (take (safe_kept safe kept) kept.events)

abbrev pub added_text : ℕ → Kept → List ℕ
added_text safe kept = text_from (state_after safe kept) (drop (safe_kept safe kept) kept.events)

-- who is there joined
joined_after : (state : State) (events : List Event) → AllJoined state → AllJoined (fold.after step state events)
joined_after state [] joined = joined
joined_after state (happens ∷ more) joined = joined_after (step state happens).state more (stay_joined state happens joined)

pub joined_now : (kept : Kept) (safe : ℕ) → IsHistory kept safe → AllJoined (state_now kept)
joined_now kept safe history = joined_after kept.opening kept.events history.joined

-- ---- the state after some events more than the safe ones

module _ (kept : Kept) (safe : ℕ) (begun : kept.first ≤ safe) where
  state_beyond : (n : ℕ) → state_after (safe + n) kept ≡ fold.after step (state_after safe kept) (take n (drop (safe_kept safe kept) kept.events))
  state_beyond n =
      let count : safe + n - kept.first ≡ safe_kept safe kept + n = omega (arith, begun) in
      ap (λ count. fold.after step kept.opening (take count kept.events)) count
      ∙ ap (fold.after step kept.opening) (take-add (safe_kept safe kept) n kept.events)
      ∙ (goes_on step kept.opening (take (safe_kept safe kept) kept.events) (take n (drop (safe_kept safe kept) kept.events))).state_after

  parts_of : kept.events ≡ take (safe_kept safe kept) kept.events ++ drop (safe_kept safe kept) kept.events
  parts_of = sym (take-append-drop (safe_kept safe kept) kept.events)

  pub state_parts : state_now kept ≡ fold.after step (state_after safe kept) (drop (safe_kept safe kept) kept.events)
  state_parts =
      ap (fold.after step kept.opening) parts_of
      ∙ (goes_on step kept.opening (take (safe_kept safe kept) kept.events) (drop (safe_kept safe kept) kept.events)).state_after

  changes_parts : changes_of kept ≡ fold.effects step kept.opening (take (safe_kept safe kept) kept.events) ++ fold.effects step (state_after safe kept) (drop (safe_kept safe kept) kept.events)
  changes_parts =
      ap (fold.effects step kept.opening) parts_of
      ∙ (goes_on step kept.opening (take (safe_kept safe kept) kept.events) (drop (safe_kept safe kept) kept.events)).changes

  pub text_parts : text_from kept.opening kept.events ≡ synced_text safe kept ++ added_text safe kept
  text_parts =
      ap (text_from kept.opening) parts_of
      ∙ text_join kept.opening (take (safe_kept safe kept) kept.events) (drop (safe_kept safe kept) kept.events)

-- ---- what a crash leaves

-- a log that has what the safe events wrote, and of the rest a front
pub front_holds : (kept : Kept) (safe : ℕ) → IsHistory kept safe → (base : List ℕ) → Holds replay base kept.opening.keys (length base)
    → (image : Files) → HasFront Log (base ++ synced_text safe kept) (added_text safe kept) image → HoldsFrom kept safe image
front_holds kept safe history base holds image front =
    let first = take (safe_kept safe kept) kept.events in
    let rest = drop (safe_kept safe kept) kept.events in
    let loggable : AreLoggable (fold.effects step kept.opening first ++ fold.effects step (state_after safe kept) rest) =
    subst AreLoggable (changes_parts kept safe history.begun) history.loggable in
    let synced = after_all kept.opening first base holds (split_front CanLog (fold.effects step kept.opening first) (fold.effects step (state_after safe kept) rest) loggable) in
    let stands = cut_short (state_after safe kept) rest (base ++ synced_text safe kept) front.0 synced
    (split_back CanLog (fold.effects step kept.opening first) (fold.effects step (state_after safe kept) rest) loggable) in
    record {
      count = safe + stands.count;
      at_least = omega arith;
      at_most = omega (arith, stands.within, length-drop (safe_kept safe kept) kept.events, history.begun, history.reached);
      restarts = log_restarts replay image ((base ++ synced_text safe kept) ++ take front.0 (added_text safe kept)) stands.kept (state_after (safe + stands.count) kept).keys front.1
          (subst (λ (state : State). Holds replay ((base ++ synced_text safe kept) ++ take front.0 (added_text safe kept)) state.keys stands.kept)
          (sym (state_beyond kept safe history.begun stands.count)) stands.holds);
    }

-- what all events wrote stands for the keys now
pub after_all_parts : (kept : Kept) (safe : ℕ) → IsHistory kept safe → (base : List ℕ) → Holds replay base kept.opening.keys (length base)
    → Holds replay ((base ++ synced_text safe kept) ++ added_text safe kept) (state_now kept).keys (length ((base ++ synced_text safe kept) ++ added_text safe kept))
after_all_parts kept safe history base holds =
    let text : base ++ text_from kept.opening kept.events ≡ (base ++ synced_text safe kept) ++ added_text safe kept =
    ap (λ text. base ++ text) (text_parts kept safe history.begun) ∙ sym (append_assoc base (synced_text safe kept) (added_text safe kept)) in
    subst (λ bytes. Holds replay bytes (state_now kept).keys (length bytes)) text (after_all kept.opening kept.events base holds history.loggable)

pub log_images : (kept : Kept) (safe : ℕ) (told : Told) → IsHistory kept safe → LogHolds kept safe told → (image : Files) → MayLeave (disk_told told) image → HoldsFrom kept safe image
log_images kept safe told history log =
    may_leave (IsSafeUpTo Log (log.base ++ synced_text safe kept) (added_text safe kept)) (HoldsFrom kept safe) (disk_told told) log.log
    (λ disk image is leaves. front_holds kept safe history log.base log.holds image
    (safe_leaves Log (log.base ++ synced_text safe kept) (added_text safe kept) disk image is leaves))

-- an image of the kept events is one of these and further ones
pub holds_beyond : (kept : Kept) (more : List Event) (less safe : ℕ) (image : Files) → less ≤ safe → HoldsFrom kept safe image → HoldsFrom (record kept { events = kept.events ++ more }) less image
holds_beyond kept more less safe image few holds =
    let same : state_after holds.count (record kept { events = kept.events ++ more }) ≡ state_after holds.count kept =
    ap (fold.after step kept.opening) (take-append-le (holds.count - kept.first) kept.events more (omega (arith, holds.at_most))) in
    record {
      count = holds.count;
      at_least = omega (arith, few, holds.at_least);
      at_most = omega (arith, holds.at_most, length-append kept.events more);
      restarts = rw same holds.restarts;
    }

-- ---- one more event

module _ (kept : Kept) (happens : Event) where
  now_with : state_now (with_event happens kept) ≡ (step (state_now kept) happens).state
  now_with = (goes_on step kept.opening kept.events (happens ∷ [])).state_after

  pub state_next : state_now (with_event happens kept) ≡ (step (state_now kept) happens).state
  state_next = now_with

  pub after_next : (count : ℕ) → count ≤ event_count kept → state_after count (with_event happens kept) ≡ state_after count kept
  after_next count few = ap (fold.after step kept.opening) (take-append-le (count - kept.first) kept.events (happens ∷ []) (omega (arith, few)))

  changes_next : changes_of (with_event happens kept) ≡ changes_of kept ++ (step (state_now kept) happens).effects ∷ []
  changes_next = (goes_on step kept.opening kept.events (happens ∷ [])).changes

  pub count_next : event_count (with_event happens kept) ≡ event_count kept + 1
  count_next = omega (arith, length-append kept.events (happens ∷ []))

  -- an image of the kept events is one of these and one more
  pub holds_further : (safe : ℕ) (image : Files) → HoldsFrom kept safe image → HoldsFrom (with_event happens kept) safe image
  holds_further safe image holds = holds_beyond kept (happens ∷ []) safe safe image (omega arith) holds

  module _ (safe : ℕ) (history : IsHistory kept safe) (servable : IsServable happens) (few : event_count kept < 2 ^ 64 - 1) where
    pub next_history : IsHistory (with_event happens kept) safe
    next_history =
        let limits = step_kept any_native (state_now kept) happens servable history.limits in
        record {
          counted = omega (arith, few, count_next);
          begun = history.begun;
          reached = omega (arith, history.reached, count_next);
          joined = history.joined;
          limits = rw now_with limits.keys;
          loggable = rw changes_next (join_all CanLog (changes_of kept) ((step (state_now kept) happens).effects ∷ []) history.loggable (limits.effects, tt));
        }

  module _ (safe : ℕ) (begun : kept.first ≤ safe) (reached : safe ≤ event_count kept) where
    few_safe : safe_kept safe kept ≤ length kept.events
    few_safe = omega (arith, reached)

    pub synced_next : synced_text safe (with_event happens kept) ≡ synced_text safe kept
    synced_next = ap (text_from kept.opening) (take-append-le (safe_kept safe kept) kept.events (happens ∷ []) few_safe)

    pub added_next : added_text safe (with_event happens kept) ≡ added_text safe kept ++ unit (step (state_now kept) happens).effects
    added_next =
        let rest = drop (safe_kept safe kept) kept.events in
        ap (λ state. text_from state (drop (safe_kept safe kept) (kept.events ++ happens ∷ []))) (after_next safe reached)
        ∙ ap (text_from (state_after safe kept)) (drop-append-le (safe_kept safe kept) kept.events (happens ∷ []) few_safe)
        ∙ text_join (state_after safe kept) rest (happens ∷ [])
        ∙ ap (λ state. added_text safe kept ++ text_from state (happens ∷ [])) (sym (state_parts kept safe begun))
        ∙ ap (λ text. added_text safe kept ++ text) (text_one (state_now kept) happens)

-- ---- all events are safe

pub all_after : (kept : Kept) → state_after (event_count kept) kept ≡ state_now kept
all_after kept = ap (fold.after step kept.opening) (take_all (event_count kept - kept.first) kept.events (omega arith))

pub all_synced : (kept : Kept) → synced_text (event_count kept) kept ≡ text_from kept.opening kept.events
all_synced kept = ap (text_from kept.opening) (take_all (event_count kept - kept.first) kept.events (omega arith))

pub none_added : (kept : Kept) → added_text (event_count kept) kept ≡ []
none_added kept =
    ap (text_from (state_after (event_count kept) kept)) (drop_all (event_count kept - kept.first) kept.events (omega arith))
    ∙ text_none (state_after (event_count kept) kept)
  where
    drop_all : {X : Type 0} (n : ℕ) (xs : List X) → length xs ≤ n → drop n xs ≡ []
    drop_all n [] few = drop-nil n
    drop_all zero (x ∷ xs) few = absurd (omega (arith, few))
    drop_all (suc n) (x ∷ xs) few = drop_all n xs (omega (arith, few))
