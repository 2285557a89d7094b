-- Serves clauses made and broken of `serve_event`, and the clauses of `serve_request`: events one
-- after the other.
use Rattle.std.proofs.Common.{◌≡◌, ◌≤◌, refl, sym, ap, subst, ◌∙◌, ℕ, List, [], ◌++◌, append-nil, ◌+◌, length, length-append, take, take_all, Option, Some, None, arith, inl, inr}
use Rattle.std.specs.Option.{option_map}
use Rattle.std.proofs.lemmas.List.{append_assoc}
use Rattle.std.proofs.Math.Seq.{take-append-add}
use Rattle.std.proofs.lemmas.List.Concat.{flat_map-append}
use Rattle.core_types.specs.declared.event.Event.{Event}
use Rattle.disk_model.specs.Files.{Files, Become, with_appended}
use Rattle.disk_model.specs.Runs.{LeavesOnly}
use Rattle.disk_model.specs.Told.{Told, files_told}
use Rattle.disk_model.specs.declared.file_name.FileName.TheVariants.{Log}
use Rattle.disk_model.proofs.Moments as moments
use Rattle.effect_log.specs.Unit.{unit}
use Rattle.effect_log.specs.Written.{log_text}
use Rattle.host_core.specs.Events.{step}
use Rattle.host_core.specs.Fold as fold
use Rattle.host_core.specs.State.{State}
use Rattle.host_core.proofs.Folds.{goes_on}
use Rattle.durable_host.specs.Crash.{HoldsFrom}
use Rattle.durable_host.specs.Host.{Host}
use Rattle.durable_host.specs.Kept.{Kept, state_now}
use Rattle.durable_host.proofs.Histories.{holds_beyond}
use Rattle.server_shell.specs.Making.{IsLogged, MakesAll, MakesSome, with_events, writes}

-- ---- a file that is appended to

same_log : (log : Option (List ℕ)) → option_map (λ old. old ++ []) log ≡ log
same_log None = refl
same_log (Some bytes) = ap Some (append-nil bytes)

pub nothing_appended : (files : Option Files) → Become (with_appended Log []) files files
nothing_appended None = refl
nothing_appended (Some files) = ap (λ log. Some (record files { log = log })) (sym (same_log files.log))

twice_log : (first second : List ℕ) (log : Option (List ℕ)) → option_map (λ old. old ++ second) (option_map (λ old. old ++ first) log) ≡ option_map (λ old. old ++ (first ++ second)) log
twice_log first second None = refl
twice_log first second (Some bytes) = ap Some (append_assoc bytes first second)

appended_files : (first second : List ℕ) (files : Option Files) → option_map (with_appended Log second) (option_map (with_appended Log first) files) ≡ option_map (with_appended Log (first ++ second)) files
appended_files first second None = refl
appended_files first second (Some files) = ap (λ log. Some (record files { log = log })) (twice_log first second files.log)

pub appended_twice : (first second : List ℕ) (a b c : Option Files) → Become (with_appended Log first) a b → Become (with_appended Log second) b c → Become (with_appended Log (first ++ second)) a c
appended_twice first second a b c one other = other ∙ ap (option_map (with_appended Log second)) one ∙ appended_files first second a

-- ---- events

pub writes_more : (state : State) (first second : List Event) → writes state (first ++ second) ≡ writes state first ++ writes (fold.after step state first) second
writes_more state first second =
    ap log_text (goes_on step state first second).changes ∙ flat_map-append unit (fold.effects step state first) (fold.effects step (fold.after step state first) second)

pub now_after : (kept : Kept) (events : List Event) → state_now (with_events events kept) ≡ fold.after step (state_now kept) events
now_after kept events = (goes_on step kept.opening kept.events events).state_after

pub kept_twice : (kept : Kept) (first second : List Event) → with_events second (with_events first kept) ≡ with_events (first ++ second) kept
kept_twice kept first second = ap (λ events. record kept { events = events }) (append_assoc kept.events first second)

-- images of fewer events are images of more
pub wider : (kept : Kept) (first second : List Event) (safe : ℕ) (old new : Told) → LeavesOnly old new (HoldsFrom (with_events first kept) safe) → LeavesOnly old new (HoldsFrom (with_events (first ++ second) kept) safe)
wider kept first second safe old new only =
    moments.weaker old new (HoldsFrom (with_events first kept) safe) (HoldsFrom (with_events (first ++ second) kept) safe) only
    (λ image holds. subst (λ k. HoldsFrom k safe image) (kept_twice kept first second) (holds_beyond (with_events first kept) second safe safe image (omega arith) holds))

-- and those of more safe events are images of fewer
pub fewer_safe : (kept : Kept) (less safe : ℕ) (old new : Told) → less ≤ safe → LeavesOnly old new (HoldsFrom kept safe) → LeavesOnly old new (HoldsFrom kept less)
fewer_safe kept less safe old new few only =
    moments.weaker old new (HoldsFrom kept safe) (HoldsFrom kept less) only
    (λ image holds. record { count = holds.count; at_least = omega (arith, few, holds.at_least); at_most = holds.at_most; restarts = holds.restarts })

module _ {D : Type 0} (told : D → Told) (a b c : Host D) (first : List Event) where
  -- what is logged behind events that are logged whole
  pub logged_later : (second all : List Event) → first ++ second ≡ all → b.kept ≡ with_events first a.kept → Become (with_appended Log (writes (state_now a.kept) first)) (files_told (told a.dir)) (files_told (told b.dir)) → IsLogged told second b c → IsLogged told all a c
  logged_later second all are kept one other =
      let front = writes (state_now a.kept) first in
      let back = writes (state_now b.kept) second in
      let both : front ++ back ≡ writes (state_now a.kept) all =
      ap (λ state. front ++ writes state second) (ap state_now kept ∙ now_after a.kept first) ∙ sym (writes_more (state_now a.kept) first second) ∙ ap (writes (state_now a.kept)) are in
      record {
        size = length front + other.size;
        log = subst (λ text. Become (with_appended Log text) (files_told (told a.dir)) (files_told (told c.dir)))
            (sym (take-append-add front back other.size) ∙ ap (take (length front + other.size)) both)
            (appended_twice front (take other.size back) (files_told (told a.dir)) (files_told (told b.dir)) (files_told (told c.dir)) one other.log);
        all = elim other.all [
          | inl failed ↦ inl failed
          | inr whole ↦ inr (omega (arith, whole, ap length both, length-append front back))
        ];
      }

  pub later_size : (second all : List Event) (are : first ++ second ≡ all) (kept : b.kept ≡ with_events first a.kept)
      (one : Become (with_appended Log (writes (state_now a.kept) first)) (files_told (told a.dir)) (files_told (told b.dir))) (other : IsLogged told second b c)
      → (logged_later second all are kept one other).size ≡ length (writes (state_now a.kept) first) + other.size
  unfolding logged_later
  later_size second all are kept one other = refl

module _ {D : Type 0} (told : D → Told) (a b c : Host D) (first second : List Event) where
  pub both_crash : b.kept ≡ with_events first a.kept → a.safe ≤ b.safe → LeavesOnly (told a.dir) (told b.dir) (HoldsFrom (with_events first a.kept) a.safe)
      → LeavesOnly (told b.dir) (told c.dir) (HoldsFrom (with_events second b.kept) b.safe) → LeavesOnly (told a.dir) (told c.dir) (HoldsFrom (with_events (first ++ second) a.kept) a.safe)
  both_crash kept safe one other =
      moments.further (told a.dir) (told b.dir) (told c.dir) (HoldsFrom (with_events (first ++ second) a.kept) a.safe)
      (wider a.kept first second a.safe (told a.dir) (told b.dir) one)
      (fewer_safe (with_events (first ++ second) a.kept) a.safe b.safe (told b.dir) (told c.dir) safe
      (subst (λ k. LeavesOnly (told b.dir) (told c.dir) (HoldsFrom k b.safe)) (ap (with_events second) kept ∙ kept_twice a.kept first second) other))

  pub makes_both : MakesAll told first a b → MakesAll told second b c → MakesAll told (first ++ second) a c
  makes_both one other = record {
    runs = other.runs;
    kept = other.kept ∙ ap (with_events second) one.kept ∙ kept_twice a.kept first second;
    keeps = other.keeps;
    safe = omega (arith, one.safe, other.safe);
    ending = other.ending ∙ one.ending;
    log = subst (λ text. Become (with_appended Log text) (files_told (told a.dir)) (files_told (told c.dir)))
        (ap (λ state. writes (state_now a.kept) first ++ writes state second) (ap state_now one.kept ∙ now_after a.kept first) ∙ sym (writes_more (state_now a.kept) first second))
        (appended_twice (writes (state_now a.kept) first) (writes (state_now b.kept) second) (files_told (told a.dir)) (files_told (told b.dir)) (files_told (told c.dir)) one.log other.log);
    crash = both_crash one.kept one.safe one.crash other.crash;
  }

  pub breaks_later : MakesAll told first a b → MakesSome told second b c → MakesSome told (first ++ second) a c
  breaks_later one other = record {
    made = first ++ other.made;
    rest = other.rest;
    parts = ap (λ events. first ++ events) other.parts ∙ sym (append_assoc first other.made other.rest);
    kept = other.kept ∙ ap (with_events other.made) one.kept ∙ kept_twice a.kept first other.made;
    keeps = other.keeps;
    safe = omega (arith, one.safe, other.safe);
    ending = other.ending ∙ one.ending;
    logged = logged_later told a b c first other.made (first ++ other.made) refl one.kept one.log other.logged;
    crash = both_crash one.kept one.safe one.crash other.crash;
  }

-- what is logged whole
pub logged_whole : {D : Type 0} (told : D → Told) (a b : Host D) (events all : List Event) → events ≡ all → Become (with_appended Log (writes (state_now a.kept) events)) (files_told (told a.dir)) (files_told (told b.dir)) → IsLogged told all a b
logged_whole told a b events all are log =
    let text = writes (state_now a.kept) events in
    let same : text ≡ writes (state_now a.kept) all = ap (writes (state_now a.kept)) are in
    record {
      size = length text;
      log = subst (λ bytes. Become (with_appended Log bytes) (files_told (told a.dir)) (files_told (told b.dir))) (sym (take_all (length text) text (omega arith)) ∙ ap (take (length text)) same) log;
      all = inr (omega (arith, ap length same));
    }

pub whole_size : {D : Type 0} (told : D → Told) (a b : Host D) (events all : List Event) (are : events ≡ all)
    (log : Become (with_appended Log (writes (state_now a.kept) events)) (files_told (told a.dir)) (files_told (told b.dir))) → (logged_whole told a b events all are log).size ≡ length (writes (state_now a.kept) events)
unfolding logged_whole
whole_size told a b events all are log = refl

pub breaks_sooner : {D : Type 0} (told : D → Told) (a b : Host D) (first second : List Event) → MakesSome told first a b → MakesSome told (first ++ second) a b
breaks_sooner told a b first second one = record {
  made = one.made;
  rest = one.rest ++ second;
  parts = ap (λ events. events ++ second) one.parts ∙ append_assoc one.made one.rest second;
  kept = one.kept;
  keeps = one.keeps;
  safe = one.safe;
  ending = one.ending;
  logged = one.logged;
  crash = wider a.kept first second a.safe (told a.dir) (told b.dir) one.crash;
}
