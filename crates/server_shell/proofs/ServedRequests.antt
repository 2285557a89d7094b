-- Serves the clauses of `serve_request`: how each end of it leaves the host and the sink.
use Rattle.std.proofs.Common.{◌≡◌, ◌≤◌, refl, sym, ap, ap₂, subst, ◌∙◌, ℕ, ◌+◌, ◌-◌, List, [], ◌∷◌, ◌++◌, length, take, drop, take_all, take-take, length-take, length-append, append-nil, Option, None, arith, inl, inr}
use Rattle.std.specs.Io.KnownBytes.{Appends}
use Rattle.std.proofs.KnownBytes.{Appends-nil}
use Rattle.std.specs.List.{AllByRecursion}
use Rattle.std.proofs.lemmas.Bool.{cases_lt}
use Rattle.std.proofs.lemmas.List.{take-append-le}
use Rattle.std.proofs.Math.Seq.{drop-append_seam, take-add, take-append-add, take-append_seam}
use Rattle.core_types.specs.declared.bad_request.BadRequest.{BadRequest}
use Rattle.core_types.specs.declared.event.Event.{Event}
use Rattle.core_types.specs.declared.event.Event.TheVariants as event
use Rattle.disk_model.specs.Files.{Become, with_appended}
use Rattle.disk_model.specs.Runs.{LeavesOnly}
use Rattle.disk_model.specs.declared.file_name.FileName.TheVariants.{Log}
use Rattle.disk_model.specs.Told.{Told, files_told}
use Rattle.host_core.specs.Events.{step}
use Rattle.host_core.specs.Fold as fold
use Rattle.host_core.specs.State.{State}
use Rattle.durable_host.specs.Crash.{HoldsFrom}
use Rattle.durable_host.specs.Host.{Host}
use Rattle.durable_host.specs.Kept.{Kept, event_count, state_now}
use Rattle.server_shell.specs.Making.{MakesAll, MakesSome, open_to, safe_bytes, taken_by, tells, with_events, writes}
use Rattle.server_shell.specs.Requests.{Serves, ServesPart}
use Rattle.server_shell.specs.Runs.{request_events}
use Rattle.server_shell.specs.Stream.{IsCaughtUp, IsOneStream, StaysOn}
use Rattle.server_shell.specs.inner.Handing.{HandsAll, HandsPart}
use Rattle.server_shell.proofs.ClientStream.{said_more, stays_join}
use Rattle.server_shell.proofs.Flushing.{no_goer}
use Rattle.server_shell.proofs.Joining.{breaks_later, breaks_sooner, logged_whole, makes_both}

-- ---- no event of a request makes client 1 go

pub no_tick : (moment : ℕ) → event.Tick moment ≡ event.Gone 1 → ⊥
no_tick moment is = absurd cc

pub no_arrival : (words : List (List ℕ)) → event.Arrive 1 words ≡ event.Gone 1 → ⊥
no_arrival words is = absurd cc

pub no_refusal : (kind : BadRequest) → event.Malformed 1 kind ≡ event.Gone 1 → ⊥
no_refusal kind is = absurd cc

pub refusal_stays : (kind : BadRequest) → AllByRecursion StaysOn (event.Malformed 1 kind ∷ event.Flush ∷ [])
refusal_stays kind = (no_refusal kind, (no_goer, tt))

pub request_stays : (moment : ℕ) (words : List (List ℕ)) → AllByRecursion StaysOn (request_events moment words)
request_stays moment words = (no_tick moment, (no_arrival words, (no_goer, tt)))

pub goes_on_one : (kept : Kept) (events : List Event) → IsOneStream kept → AllByRecursion StaysOn events → IsOneStream (with_events events kept)
goes_on_one kept events one stays = record { from_first = one.from_first; none = one.none; stays = stays_join kept.events events one.stays stays }

-- ---- what the safe events told only grows

front_of : {X : Type 0} (n m : ℕ) (xs : List X) → n ≤ m → take m xs ≡ take n xs ++ take (m - n) (drop n xs)
front_of n m xs few =
    let sum : m ≡ n + (m - n) = omega (arith, few) in
    ap (λ k. take k xs) sum ∙ take-add n (m - n) xs

-- what the first events told is a front of what more of them told
grows : (opening : State) (events more : List Event) (safe later : ℕ) → safe ≤ length events → safe ≤ later
    → (rest : List ℕ) × (tells opening (take later (events ++ more)) ≡ tells opening (take safe events) ++ rest)
grows opening events more safe later within few =
    let first = take safe events in
    let rest = take (later - safe) (drop safe (events ++ more)) in (
      tells (fold.after step opening first) rest,
      ap (tells opening) (front_of safe later (events ++ more) few ∙ ap (λ front. front ++ rest) (take-append-le safe events more within)) ∙ said_more opening first rest,
    )

-- all that was told, where the safe events told all of it
all_safe : (opening : State) (events : List Event) (safe : ℕ) → safe ≤ length events → length (tells opening events) ≤ length (tells opening (take safe events)) → tells opening events ≡ tells opening (take safe events)
all_safe opening events safe within enough =
    let later = grows opening events [] safe (length events) within within in
    let whole : tells opening events ≡ tells opening (take safe events) ++ later.0 =
    ap (tells opening) (sym (take_all (length events) (events ++ []) (omega (arith, length-append events [])) ∙ append-nil events)) ∙ later.1 in
    let none : length later.0 ≡ 0 = omega (arith, enough, ap length whole, length-append (tells opening (take safe events)) later.0) in
    whole ∙ ap (λ rest. tells opening (take safe events) ++ rest) (empty later.0 none) ∙ append-nil (tells opening (take safe events))
  where
    empty : (bytes : List ℕ) → length bytes ≡ 0 → bytes ≡ []
    empty [] none = refl
    empty (byte ∷ more) none = absurd (omega (arith, none))

module _ {D : Type 0} (told : D → Told) (before after : Host D) (made : List Event) (caught : IsCaughtUp told before) (kept : after.kept ≡ with_events made before.kept) (safe : before.safe ≤ after.safe) where
  abbrev so_far : List ℕ
  so_far = tells before.kept.opening before.kept.events

  -- what was told before is still a front of what the safe events told
  pub still_safe : (rest : List ℕ) × (safe_bytes after ≡ so_far ++ rest)
  still_safe =
      let first = caught.one.from_first in
      let within : before.safe ≤ length before.kept.events = omega (arith, caught.keeps.reached, first) in
      let later = grows before.kept.opening before.kept.events made before.safe after.safe within safe in
      let all = all_safe before.kept.opening before.kept.events before.safe within caught.safely in
      let place : after.safe - before.kept.first ≡ after.safe = omega (arith, first) in (
        later.0,
        ap (λ (k : Kept). tells k.opening (take (after.safe - k.first) k.events)) kept
            ∙ ap (λ n. tells before.kept.opening (take n (before.kept.events ++ made))) place
            ∙ later.1 ∙ ap (λ front. front ++ later.0) (sym all),
      )

-- ---- a request that the host did not make to its end

module _ {D : Type 0} (told : D → Told) (events : List Event) (before after : Host D) (got : Option (List ℕ)) (caught : IsCaughtUp told before) where
  pub part_broken : MakesSome told events before after → ServesPart told [] events before after got got
  part_broken breaks =
      let still = still_safe told before after breaks.made caught breaks.kept breaks.safe in
      record {
        made = breaks.made;
        rest = breaks.rest;
        parts = breaks.parts;
        kept = breaks.kept;
        keeps = breaks.keeps;
        safe = breaks.safe;
        ending = breaks.ending;
        logged = breaks.logged;
        whole = omega arith;
        crash = breaks.crash;
        bytes = [];
        sent = Appends-nil got;
        count = length (tells before.kept.opening before.kept.events);
        safely = append-nil (tells before.kept.opening before.kept.events)
            ∙ sym (ap (take (length (tells before.kept.opening before.kept.events))) still.1 ∙ take-append_seam (tells before.kept.opening before.kept.events) still.0);
      }

-- ---- a request of which all events were made, and what they told is handed out

module _ {D : Type 0} (told : D → Told) (events : List Event) (before flushed after : Host D) (caught : IsCaughtUp told before) (stays : AllByRecursion StaysOn events)
    (makes : MakesAll told events before flushed) (same_taken : taken_by flushed ≡ taken_by before)
    (opened : open_to flushed ≡ length (tells flushed.kept.opening flushed.kept.events)) (safe : flushed.safe ≡ event_count flushed.kept) where
  abbrev so_far_told : List ℕ
  so_far_told = tells before.kept.opening before.kept.events

  abbrev new_bytes : List ℕ
  new_bytes = tells (state_now before.kept) events

  told_now : tells flushed.kept.opening flushed.kept.events ≡ so_far_told ++ new_bytes
  told_now =
      ap (λ (k : Kept). tells k.opening k.events) makes.kept
      ∙ said_more before.kept.opening before.kept.events events

  all_flushed : safe_bytes flushed ≡ so_far_told ++ new_bytes
  all_flushed =
      ap (tells flushed.kept.opening) (take_all (flushed.safe - flushed.kept.first) flushed.kept.events (omega (arith, safe))) ∙ told_now

  -- what is behind what was told before
  new_taken : (n : ℕ) → take n (drop (taken_by flushed) (safe_bytes flushed)) ≡ take n new_bytes
  new_taken n =
      ap₂ (λ place bytes. take n (drop place bytes)) (same_taken ∙ caught.taken) all_flushed
      ∙ ap (take n) (drop-append_seam so_far_told new_bytes)

  -- what was handed out, all events are safe
  pub handed_safe : (got got' : Option (List ℕ)) → HandsPart told flushed after got got' → (after.stopped ≡ None) × (after.safe ≡ event_count after.kept)
  handed_safe got got' part =
      let same = part.hands.same in (
        ap (λ (it : Host D). it.stopped) same ∙ makes.runs,
        ap (λ (it : Host D). it.safe) same ∙ safe ∙ sym (ap (λ (it : Host D). event_count it.kept) same),
      )

  crash_same : (host : Host D) → host ≡ record flushed { held = host.held } → LeavesOnly (told before.dir) (told host.dir) (HoldsFrom (with_events events before.kept) before.safe)
  crash_same host same = subst (λ dir. LeavesOnly (told before.dir) (told dir) (HoldsFrom (with_events events before.kept) before.safe)) (sym (ap (λ (it : Host D). it.dir) same)) makes.crash

  safe_same : (host : Host D) → host ≡ record flushed { held = host.held } → before.safe ≤ host.safe
  safe_same host same = subst (λ n. before.safe ≤ n) (sym (ap (λ (it : Host D). it.safe) same)) makes.safe

  log_same : (host : Host D) → host ≡ record flushed { held = host.held } → Become (with_appended Log (writes (state_now before.kept) events)) (files_told (told before.dir)) (files_told (told host.dir))
  log_same host same = subst (λ dir. Become (with_appended Log (writes (state_now before.kept) events)) (files_told (told before.dir)) (files_told (told dir))) (sym (ap (λ (it : Host D). it.dir) same)) makes.log

  kept_same : (host : Host D) → host ≡ record flushed { held = host.held } → host.kept ≡ with_events events before.kept
  kept_same host same = ap (λ (it : Host D). it.kept) same ∙ makes.kept

  pub all_served : (got got' : Option (List ℕ)) → HandsAll told flushed after got got' → Serves told events before after got got'
  all_served got got' all =
      let same = all.hands.same in
      let size : taken_by after - taken_by flushed ≡ length new_bytes =
      omega (arith, all.all, opened, ap length told_now, length-append so_far_told new_bytes, same_taken, caught.taken) in
      let is : all.bytes ≡ new_bytes =
      all.hands.bytes_are ∙ new_taken (taken_by after - taken_by flushed) ∙ take_all (taken_by after - taken_by flushed) new_bytes (omega (arith, size)) in
      record {
        kept = kept_same after same;
        caught_up = record {
          runs = ap (λ (it : Host D). it.stopped) same ∙ makes.runs;
          keeps = all.hands.keeps;
          one = subst IsOneStream (sym (kept_same after same)) (goes_on_one before.kept events caught.one stays);
          taken = all.all ∙ opened ∙ ap (λ (it : Host D). length (tells it.kept.opening it.kept.events)) (sym same);
          safely = subst (λ (it : Host D). length (tells it.kept.opening it.kept.events) ≤ length (tells it.kept.opening (take it.safe it.kept.events))) (sym same)
              (omega (arith, ap (λ events. length (tells flushed.kept.opening events)) (take_all flushed.safe flushed.kept.events (omega (arith, safe)))));
        };
        safe = safe_same after same;
        ending = ap (λ (it : Host D). it.ending) same ∙ makes.ending;
        log = log_same after same;
        crash = crash_same after same;
        sent = subst (Appends got got') is all.sent;
      }

  pub part_handed : (got got' : Option (List ℕ)) → HandsPart told flushed after got got' → ServesPart told [] events before after got got'
  part_handed got got' part =
      let same = part.hands.same in
      let is : part.bytes ≡ take (taken_by after - taken_by flushed) new_bytes = part.hands.bytes_are ∙ new_taken (taken_by after - taken_by flushed) in
      let front = twice part.count (taken_by after - taken_by flushed) new_bytes in
      record {
        made = events;
        rest = [];
        parts = sym (append-nil events);
        kept = kept_same after same;
        keeps = part.hands.keeps;
        safe = safe_same after same;
        ending = ap (λ (it : Host D). it.ending) same ∙ makes.ending;
        logged = logged_whole told before after events events refl (log_same after same);
        whole = omega arith;
        crash = crash_same after same;
        bytes = take part.count part.bytes;
        sent = part.sent;
        count = length so_far_told + front.0;
        safely = ap (λ bytes. so_far_told ++ take part.count bytes) is ∙ ap (λ bytes. so_far_told ++ bytes) front.1
            ∙ sym (ap (take (length so_far_told + front.0)) (ap (λ (it : Host D). safe_bytes it) same ∙ all_flushed) ∙ take-append-add so_far_told new_bytes front.0);
      }
    where
      twice : (n m : ℕ) (bytes : List ℕ) → (k : ℕ) × (take n (take m bytes) ≡ take k bytes)
      twice n m bytes = elim (cases_lt m n) [
        | inl less ↦ (m, take_all n (take m bytes) (omega (arith, less, length-take m bytes)))
        | inr more ↦ (n, take-take n m bytes more)
      ]

-- ---- the events of a request, or of a bad place, one after the other

module _ {D : Type 0} (told : D → Told) (a b c d : Host D) where
  module _ (moment : ℕ) (words : List (List ℕ)) where
    abbrev tick : List Event
    tick = event.Tick moment ∷ []

    abbrev arrival : List Event
    arrival = event.Arrive 1 words ∷ []

    pub tick_breaks : MakesSome told tick a b → MakesSome told (request_events moment words) a b
    tick_breaks breaks = breaks_sooner told a b tick (arrival ++ event.Flush ∷ []) breaks

    pub arrival_breaks : MakesAll told tick a b → MakesSome told arrival b c → MakesSome told (request_events moment words) a c
    arrival_breaks makes breaks = breaks_sooner told a c (tick ++ arrival) (event.Flush ∷ []) (breaks_later told a b c tick arrival makes breaks)

    pub flush_breaks : MakesAll told tick a b → MakesAll told arrival b c → MakesSome told (event.Flush ∷ []) c d → MakesSome told (request_events moment words) a d
    flush_breaks first second breaks = breaks_later told a c d (tick ++ arrival) (event.Flush ∷ []) (makes_both told a b c tick arrival first second) breaks

    pub request_made : MakesAll told tick a b → MakesAll told arrival b c → MakesAll told (event.Flush ∷ []) c d → MakesAll told (request_events moment words) a d
    request_made first second third = makes_both told a c d (tick ++ arrival) (event.Flush ∷ []) (makes_both told a b c tick arrival first second) third

  pub one_more_stays : (happens : Event) → StaysOn happens → IsOneStream a.kept → MakesAll told (happens ∷ []) a b → IsOneStream b.kept
  one_more_stays happens on one makes = subst IsOneStream (sym makes.kept) (goes_on_one a.kept (happens ∷ []) one (on, tt))

module _ {D : Type 0} (told : D → Told) (a b c : Host D) (kind : BadRequest) where
  abbrev bad : List Event
  bad = event.Malformed 1 kind ∷ []

  pub bad_breaks : MakesSome told bad a b → MakesSome told (bad ++ event.Flush ∷ []) a b
  bad_breaks breaks = breaks_sooner told a b bad (event.Flush ∷ []) breaks

  pub bad_flush_breaks : MakesAll told bad a b → MakesSome told (event.Flush ∷ []) b c → MakesSome told (bad ++ event.Flush ∷ []) a c
  bad_flush_breaks makes breaks = breaks_later told a b c bad (event.Flush ∷ []) makes breaks

  pub refusal_made : MakesAll told bad a b → MakesAll told (event.Flush ∷ []) b c → MakesAll told (bad ++ event.Flush ∷ []) a c
  refusal_made first second = makes_both told a b c bad (event.Flush ∷ []) first second
