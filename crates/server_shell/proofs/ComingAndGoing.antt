-- Serves clause ends of `serve_pipe`: client 1 comes before its requests, and goes behind them.
use Rattle.std.proofs.Common.{◌≡◌, ◌≤◌, refl, sym, ap, subst, ◌∙◌, ℕ, ◌-◌, true, false, List, [], ◌∷◌, ◌++◌, length, take, length-append, append-nil, Option, arith, inl, inr, ◌⊎◌}
use Rattle.std.specs.Io.KnownBytes.{Appends}
use Rattle.std.proofs.KnownBytes.{Appends-nil}
use Rattle.std.proofs.lemmas.Bool.{false≢true}
use Rattle.std.proofs.Math.Seq.{take-append_seam}
use Rattle.core_types.specs.declared.event.Event.{Event}
use Rattle.core_types.specs.declared.event.Event.TheVariants as event
use Rattle.disk_model.specs.Files.{Become, with_appended}
use Rattle.disk_model.specs.Told.{Told, files_told}
use Rattle.disk_model.specs.declared.file_name.FileName.TheVariants.{Log}
use Rattle.io_edges.specs.Told.{ClockTold}
use Rattle.host_core.specs.Events.{step}
use Rattle.host_core.specs.Fold as fold
use Rattle.durable_host.specs.Host.{Host}
use Rattle.durable_host.specs.Kept.{Kept, state_now}
use Rattle.server_shell.specs.Faults.{IsHostStop}
use Rattle.server_shell.specs.Making.{MakesAll, MakesSome, taken_by, tells, with_events, writes}
use Rattle.server_shell.specs.Pipe.{Ends, Outside, PipeEnds, SourceEnds, StopsFirst, StopsLast, StopsWithin, is_over}
use Rattle.server_shell.specs.Requests.{Serves, ServesPart, ServesToEnd}
use Rattle.server_shell.specs.Runs.{stream_events}
use Rattle.server_shell.specs.Stream.{IsCaughtUp, IsOneStream}
use Rattle.server_shell.specs.inner.Stopping.{StopsOver}
use Rattle.server_shell.specs.declared.status.Status.{Status}
use Rattle.server_shell.specs.declared.status.Status.TheVariants as status
use Rattle.server_shell.proofs.ClientStream.{comer_told, goer_told, said_more}
use Rattle.server_shell.proofs.Joining.{appended_twice, both_crash, kept_twice, now_after, writes_more}
use Rattle.server_shell.proofs.ServedRequests.{goes_on_one, part_broken, still_safe}
use Rattle.server_shell.proofs.SourceRuns.{serves_both, serves_part}

pub no_comer : event.Join 1 ≡ event.Gone 1 → ⊥
no_comer is = absurd cc

abbrev came : List Event
came = event.Join 1 ∷ []

abbrev gone : List Event
gone = event.Gone 1 ∷ []

module _ {D : Type 0} (told : D → Told) (a b : Host D) (got : Option (List ℕ)) (caught : IsCaughtUp told a) where
  abbrev so_far : List ℕ
  so_far = tells a.kept.opening a.kept.events

  -- client 1 came
  module _ (makes : MakesAll told came a b) (same : taken_by b ≡ taken_by a) where
    silent : tells (state_now a.kept) came ≡ []
    silent = ap (λ bytes. bytes ++ []) (comer_told 1 1 (state_now a.kept))

    all_told : tells b.kept.opening b.kept.events ≡ so_far
    all_told = ap (λ (k : Kept). tells k.opening k.events) makes.kept ∙ said_more a.kept.opening a.kept.events came ∙ ap (λ bytes. so_far ++ bytes) silent ∙ append-nil so_far

    one_still : IsOneStream b.kept
    one_still = subst IsOneStream (sym makes.kept) (goes_on_one a.kept came caught.one (no_comer, tt))

    safe_still : length (tells b.kept.opening b.kept.events) ≤ length (tells b.kept.opening (take b.safe b.kept.events))
    safe_still =
        let still = still_safe told a b came caught makes.kept makes.safe in
        let place : b.safe - b.kept.first ≡ b.safe = omega (arith, one_still.from_first) in
        let safe : tells b.kept.opening (take b.safe b.kept.events) ≡ so_far ++ still.0 = sym (ap (λ n. tells b.kept.opening (take n b.kept.events)) place) ∙ still.1 in
        omega (arith, ap length all_told, ap length safe, length-append so_far still.0)

    pub joined : Serves told came a b got got
    joined = record {
      kept = makes.kept;
      caught_up = record { runs = makes.runs; keeps = makes.keeps; one = one_still; taken = same ∙ caught.taken ∙ ap length (sym all_told); safely = safe_still };
      safe = makes.safe;
      ending = makes.ending;
      log = makes.log;
      crash = makes.crash;
      sent = subst (Appends got got) (sym silent) (Appends-nil got);
    }

module _ {D : Type 0} (told : D → Told) (a b c : Host D) (events : List Event) (got got' : Option (List ℕ)) (one : Serves told events a b got got') where
  -- client 1 went
  went : MakesAll told gone b c → ServesToEnd told (events ++ gone) a c got got'
  went makes =
      let now : state_now b.kept ≡ fold.after step (state_now a.kept) events = ap state_now one.kept ∙ now_after a.kept events in
      let so_far = tells b.kept.opening b.kept.events in
      let still = still_safe told b c gone one.caught_up makes.kept makes.safe in
      let all_told : tells c.kept.opening c.kept.events ≡ so_far = ap (λ (k : Kept). tells k.opening k.events) makes.kept ∙ said_more b.kept.opening b.kept.events gone
      ∙ ap (λ bytes. so_far ++ bytes) (ap (λ bytes. bytes ++ []) (goer_told 1 1 (state_now b.kept))) ∙ append-nil so_far in
      let silent : tells (fold.after step (state_now a.kept) events) gone ≡ [] = ap (λ bytes. bytes ++ []) (goer_told 1 1 (fold.after step (state_now a.kept) events)) in
      record {
        kept = makes.kept ∙ ap (with_events gone) one.kept ∙ kept_twice a.kept events gone;
        keeps = makes.keeps;
        safe = omega (arith, one.safe, makes.safe);
        ending = makes.ending ∙ one.ending;
        log = subst (λ text. Become (with_appended Log text) (files_told (told a.dir)) (files_told (told c.dir)))
            (ap (λ state. writes (state_now a.kept) events ++ writes state gone) now ∙ sym (writes_more (state_now a.kept) events gone))
            (appended_twice (writes (state_now a.kept) events) (writes (state_now b.kept) gone) (files_told (told a.dir)) (files_told (told b.dir)) (files_told (told c.dir)) one.log makes.log);
        crash = both_crash told a b c events gone one.kept one.safe one.crash makes.crash;
        sent = subst (Appends got got') (sym (said_more (state_now a.kept) events gone ∙ ap (λ bytes. tells (state_now a.kept) events ++ bytes) silent ∙ append-nil (tells (state_now a.kept) events))) one.sent;
        count = length so_far;
        safely = all_told ∙ sym (ap (take (length so_far)) still.1 ∙ take-append_seam so_far still.0);
      }

  -- or the host stopped over it
  stayed : MakesSome told gone b c → ServesPart told events gone a c got got'
  stayed breaks =
      subst (λ done. ServesPart told done gone a c got got') (append-nil events)
      (serves_part told a b c events [] got got' got' one gone (part_broken told gone b c got' one.caught_up breaks))

-- ---- by the end of a run

module _ (o : Outside) where
  within_as : (R S : (done within : List Event) → Type 0) → ((done within : List Event) → R done within → S done within) → StopsWithin o R → StopsWithin o S
  within_as R S on ends = record {
    taken = ends.taken;
    requests = ends.requests;
    moments = ends.moments;
    end = ends.end;
    took = ends.took;
    goes_on = ends.goes_on;
    done = ends.done;
    within = ends.within;
    stage = ends.stage;
    part = on ends.done ends.within ends.part;
  }

  -- a stream that is not over
  goes_on_as : (going going' whole whole' : List Event → Type 0) (stop stop' : Type 0) → ((events : List Event) → going events → going' events) → (stop → stop')
      → (end : Status) → is_over end ≡ false → Ends end o whole going stop → Ends end o whole' going' stop'
  goes_on_as going going' whole whole' stop stop' on stopped status.ReadFault over ends =
      record { taken = ends.taken; requests = ends.requests; moments = ends.moments; took = ends.took; is = ends.is; serves = on _ ends.serves }
  goes_on_as going going' whole whole' stop stop' on stopped status.TooLong over ends = record {
    front = ends.front;
    more = ends.more;
    requests = ends.requests;
    moments = ends.moments;
    consumed = ends.consumed;
    full = ends.full;
    one = ends.one;
    wants = ends.wants;
    gave = ends.gave;
    each = ends.each;
    serves = on _ ends.serves;
  }
  goes_on_as going going' whole whole' stop stop' on stopped status.DirFault over ends = stopped ends
  goes_on_as going going' whole whole' stop stop' on stopped status.Memory over ends = stopped ends
  goes_on_as going going' whole whole' stop stop' on stopped status.NumbersSpent over ends = stopped ends
  goes_on_as going going' whole whole' stop stop' on stopped status.WriteFault over ends = stopped ends
  goes_on_as going going' whole whole' stop stop' on stopped status.Done over ends = absurd (false≢true (sym over))
  goes_on_as going going' whole whole' stop stop' on stopped (status.CutOff count) over ends = absurd (false≢true (sym over))
  goes_on_as going going' whole whole' stop stop' on stopped (status.Protocol kind offset) over ends = absurd (false≢true (sym over))
  goes_on_as going going' whole whole' stop stop' on stopped (status.Usage place) over ends = absurd ends
  goes_on_as going going' whole whole' stop stop' on stopped (status.LogRefused file at why) over ends = absurd ends
  goes_on_as going going' whole whole' stop stop' on stopped (status.NotBuilt what) over ends = absurd ends

  -- a stream that is over
  over_as : (whole whole' going going' : List Event → Type 0) (stop stop' : Type 0) → ((events : List Event) → whole events → whole' events) → (end : Status) → is_over end ≡ true
      → Ends end o whole going stop → Ends end o whole' going' stop'
  over_as whole whole' going going' stop stop' on status.Done over ends =
      record { taken = ends.taken; requests = ends.requests; moments = ends.moments; took = ends.took; is = ends.is; serves = on _ ends.serves }
  over_as whole whole' going going' stop stop' on (status.CutOff count) over ends =
      record { taken = ends.taken; requests = ends.requests; moments = ends.moments; took = ends.took; is = ends.is; serves = on _ ends.serves }
  over_as whole whole' going going' stop stop' on (status.Protocol kind offset) over ends = record {
    taken = ends.taken;
    requests = ends.requests;
    moments = ends.moments;
    took = ends.took;
    going = ends.going;
    bad = ends.bad;
    serves = on _ ends.serves;
  }
  over_as whole whole' going going' stop stop' on status.ReadFault over ends = absurd (false≢true over)
  over_as whole whole' going going' stop stop' on status.TooLong over ends = absurd (false≢true over)
  over_as whole whole' going going' stop stop' on status.DirFault over ends = absurd (false≢true over)
  over_as whole whole' going going' stop stop' on status.Memory over ends = absurd (false≢true over)
  over_as whole whole' going going' stop stop' on status.NumbersSpent over ends = absurd (false≢true over)
  over_as whole whole' going going' stop stop' on status.WriteFault over ends = absurd (false≢true over)
  over_as whole whole' going going' stop stop' on (status.Usage place) over ends = absurd (false≢true over)
  over_as whole whole' going going' stop stop' on (status.LogRefused file at why) over ends = absurd (false≢true over)
  over_as whole whole' going going' stop stop' on (status.NotBuilt what) over ends = absurd (false≢true over)

  host_stops : (whole going : List Event → Type 0) (stop : Type 0) → (fault : Status) → IsHostStop fault → stop → Ends fault o whole going stop
  host_stops whole going stop status.DirFault is stopped = stopped
  host_stops whole going stop status.Memory is stopped = stopped
  host_stops whole going stop status.NumbersSpent is stopped = stopped
  host_stops whole going stop status.WriteFault is stopped = absurd is
  host_stops whole going stop status.Done is stopped = absurd is
  host_stops whole going stop (status.Usage place) is stopped = absurd is
  host_stops whole going stop (status.LogRefused file at why) is stopped = absurd is
  host_stops whole going stop status.ReadFault is stopped = absurd is
  host_stops whole going stop (status.Protocol kind offset) is stopped = absurd is
  host_stops whole going stop (status.CutOff n) is stopped = absurd is
  host_stops whole going stop status.TooLong is stopped = absurd is
  host_stops whole going stop (status.NotBuilt what) is stopped = absurd is

module _ {D : Type 0} (told : D → Told) (a d : Host D) (o : Outside) where
  abbrev Whole : List Event → Type 0
  Whole events = ServesToEnd told (stream_events events) a d o.got o.got'

  abbrev Going : List Event → Type 0
  Going events = Serves told (event.Join 1 ∷ events) a d o.got o.got'

  abbrev Within : Type 0
  Within = StopsWithin o (λ done within. ServesPart told (event.Join 1 ∷ done) within a d o.got o.got')

  abbrev Stop : Status → Type 0
  Stop stop = StopsFirst stop told a d o ⊎ Within ⊎ StopsLast stop told a d o

module _ {D : Type 0} (told : D → Told) (a b : Host D) (caught : IsCaughtUp told a) where
  -- the host stopped as client 1 came
  pub stops_first : (o : Outside) (left : Option (List ℕ)) (clock : ClockTold) (got : Option (List ℕ)) → o ≡ record { left = left; left' = left; clock = clock; clock' = clock; got = got; got' = got } → (fault : Status) → StopsOver (event.Join 1) fault → MakesSome told came a b → PipeEnds fault told a b o
  stops_first o left clock got here fault is breaks = subst (PipeEnds fault told a b) (sym here) (at_first left clock got)
    where
      at_first : (left : Option (List ℕ)) (clock : ClockTold) (got : Option (List ℕ)) → PipeEnds fault told a b (record { left = left; left' = left; clock = clock; clock' = clock; got = got; got' = got })
      at_first left clock got =
          let here : Outside = record { left = left; left' = left; clock = clock; clock' = clock; got = got; got' = got } in
          host_stops here (Whole told a b here) (Going told a b here) (Stop told a b here fault) fault is.host
          (inl (record { own = is.own tt; left = refl; clock = refl; part = part_broken told came a b got caught breaks }))

module _ {D : Type 0} (told : D → Told) (a b c : Host D) (o : Outside) (come : Serves told came a b o.got o.got) (end : Status) (ends : SourceEnds end told b c o) where
  abbrev Source : List Event → Type 0
  Source events = Serves told events b c o.got o.got'

  abbrev SourceStop : Type 0
  SourceStop = StopsWithin o (λ done within. ServesPart told done within b c o.got o.got')

  behind : (events : List Event) → Source events → Serves told (event.Join 1 ∷ events) a c o.got o.got'
  behind events = serves_both told a b c came events o.got o.got o.got' come

  -- client 1 stays
  pub stays_behind : is_over end ≡ false → PipeEnds end told a c o
  stays_behind over =
      goes_on_as o Source (Going told a c o) Source (Whole told a c o) SourceStop (Stop told a c o end) behind
      (λ stops. inr (inl (within_as o (λ done within. ServesPart told done within b c o.got o.got') (λ done within. ServesPart told (event.Join 1 ∷ done) within a c o.got o.got')
      (λ done within part. serves_part told a b c came done o.got o.got o.got' come within part) stops)))
      end over ends

  module _ (d : Host D) (over : is_over end ≡ true) where
    -- it went
    pub goes_behind : MakesAll told gone c d → PipeEnds end told a d o
    goes_behind makes =
        over_as o Source (Whole told a d o) Source (Going told a d o) SourceStop (Stop told a d o end)
        (λ events served. went told a c d (event.Join 1 ∷ events) o.got o.got' (behind events served) makes) end over ends

    -- the host stopped over it
    pub stops_behind : (fault : Status) → StopsOver (event.Gone 1) fault → MakesSome told gone c d → PipeEnds fault told a d o
    stops_behind fault is breaks =
        host_stops o (Whole told a d o) (Going told a d o) (Stop told a d o fault) fault is.host
        (inr (inr (record {
          own = is.own tt;
          end = end;
          over = over;
          stream = over_as o Source (λ events. ServesPart told (event.Join 1 ∷ events) gone a d o.got o.got') Source (λ events. ⊥) SourceStop ⊥
              (λ events served. stayed told a c d (event.Join 1 ∷ events) o.got o.got' (behind events served) breaks) end over ends;
        })))
