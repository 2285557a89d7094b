-- Serves the clauses of `serve_source`: how far a run has come, and how it ends there.
use Rattle.std.proofs.Common.{◌≡◌, ◌≤◌, ◌<◌, refl, sym, ap, subst, ◌∙◌, ℕ, ◌+◌, ◌^◌, true, false, List, [], ◌∷◌, ◌++◌, length, take, length-append, append-nil, Option, Result, Ok, Err, OnOk, IfErr, arith, inl, inr}
use Rattle.std.specs.List.{concat}
use Rattle.std.specs.Io.KnownBytes.{Consumes, IsAtEnd, Keeps}
use Rattle.std.proofs.KnownBytes.{Consumes-kept, Consumes-nil, Consumes-trans}
use Rattle.std.proofs.lemmas.List.{append_assoc}
use Rattle.std.proofs.Math.Seq.{take-append_seam}
use Rattle.core_types.specs.declared.bad_request.BadRequest.{BadRequest}
use Rattle.disk_model.specs.Told.{Told}
use Rattle.disk_model.proofs.Moments as moments
use Rattle.io_edges.specs.Told.{ClockTold, Gave, SourceTold}
use Rattle.io_edges.proofs.Readings.{none_told, parts_told}
use Rattle.resp_codec.specs.Requests.{End, IsReadAs, Requests, Served, bytes_of, quits}
use Rattle.resp_codec.specs.Spelling.{Spells}
use Rattle.resp_codec.specs.Stream.{Stream, Takes, Waits, Refuses}
use Rattle.resp_codec.proofs.WholeReadings.{bad_on, feed_on, more_on, new_read, request_on, served_to_quit}
use Rattle.durable_host.specs.Crash.{HoldsFrom}
use Rattle.durable_host.specs.Host.{Host}
use Rattle.durable_host.proofs.Histories.{holds_beyond}
use Rattle.server_shell.specs.Faults.{IsServeStop, end_of}
use Rattle.server_shell.specs.Making.{safe_bytes, tells, with_events}
use Rattle.server_shell.specs.Pipe.{EndsWithin, GoesOnTo, IsAll, NoneQuits, Outside, ServesAll, ServesLimit, SourceEnds, StopsWithin, Took, WantsMore, WasWanted}
use Rattle.server_shell.specs.Pipe as pipe
use Rattle.server_shell.specs.Requests.{AtMoment, Serves, ServesPart}
use Rattle.server_shell.specs.Runs.{end_events, request_events, served_events}
use Rattle.server_shell.specs.Stream.{IsCaughtUp}
use Rattle.server_shell.specs.declared.status.Status.{Status}
use Rattle.server_shell.specs.declared.status.Status.TheVariants as status
use Rattle.server_shell.specs.inner.Taking.{RefuseEnds, TakeStops}
use Rattle.server_shell.proofs.ServedRequests.{still_safe}
use Rattle.server_shell.proofs.SourceRuns.{last_served, none_behind, none_more, request_more, serves_both, serves_nothing, serves_part, some_quits, whole_part}

-- These requests were read of what was taken, and served; this many bytes were taken.
pub record Progress {D : Type 0} (told : D → Told) (before host : Host D) (stream : Stream) (count : ℕ) (left left' : Option (List ℕ)) (clock clock' : ClockTold) (got got' : Option (List ℕ)) : Type 0 where
  pub taken : List ℕ
  pub requests : List (List (List ℕ))
  pub moments : List ℕ
  pub consumed : Consumes left left' taken
  pub read : IsReadAs taken requests stream
  pub gave : Gave moments clock clock'
  pub each : length moments ≡ length requests
  pub going : NoneQuits requests
  pub size : count ≡ length taken
  pub within : count ≤ 2 ^ 40
  pub wanted : WasWanted taken requests
  pub serves : Serves told (served_events requests moments) before host got got'

-- before the first piece
pub nothing_wanted : WasWanted [] []
nothing_wanted = record { before = []; piece = []; front = []; more = []; taken_are = refl; short = omega arith; requests_are = refl; going = refl; wanted = inl refl }

module _ {D : Type 0} (told : D → Told) (before : Host D) (left : Option (List ℕ)) (clock : ClockTold) (got : Option (List ℕ)) where
  abbrev At : Host D → Stream → ℕ → Option (List ℕ) → ClockTold → Option (List ℕ) → Type 0
  At host stream count left' clock' got' = Progress told before host stream count left left' clock clock' got got'

  abbrev seen : Option (List ℕ) → ClockTold → Option (List ℕ) → Outside
  seen left' clock' got' = record { left = left; left' = left'; clock = clock; clock' = clock'; got = got; got' = got' }

  abbrev All : Host D → Outside → (List ℕ → List (List (List ℕ)) → Type 0) → Type 0
  All after o P = ServesAll o P (λ events. Serves told events before after o.got o.got')

  abbrev Limit : Host D → Outside → Type 0
  Limit after o = ServesLimit o (λ events. Serves told events before after o.got o.got')

  abbrev Bad : Host D → Outside → BadRequest → ℕ → Type 0
  Bad after o kind offset = pipe.Refuses o kind offset (λ events. Serves told events before after o.got o.got')

  abbrev Part : Host D → Outside → Type 0
  Part after o = StopsWithin o (λ done within. ServesPart told done within before after o.got o.got')

  -- nothing was read
  pub begins : (stream : Stream) → IsCaughtUp told before → stream.passed ≡ 0 → stream.rest ≡ [] → At before stream 0 left clock got
  begins stream caught passed rest = record {
    taken = [];
    requests = [];
    moments = [];
    consumed = Consumes-nil left;
    read = new_read stream passed rest;
    gave = none_told clock.given;
    each = refl;
    going = refl;
    size = refl;
    within = omega arith;
    wanted = nothing_wanted;
    serves = serves_nothing told before got caught
        (moments.no_call (told before.dir) (told before.dir) (HoldsFrom (with_events [] before.kept) before.safe) refl
        (λ image may. let holds = caught.keeps.images image may in holds_beyond before.kept [] before.safe before.safe image (omega arith) holds));
  }

  module _ (host : Host D) (stream : Stream) (count : ℕ) (left' : Option (List ℕ)) (clock' : ClockTold) (got' : Option (List ℕ)) (p : At host stream count left' clock' got') where
    -- a piece more was taken
    pub fed : (fed_stream : Stream) (left'' : Option (List ℕ)) (piece : List ℕ) (n : ℕ) → Consumes left' left'' piece → fed_stream.passed ≡ stream.passed → fed_stream.rest ≡ stream.rest ++ piece → length piece ≡ n → count + n ≤ 2 ^ 40
        → WasWanted (p.taken ++ piece) p.requests → At host fed_stream (count + n) left'' clock' got'
    fed fed_stream left'' piece n more passed rest size within wanted = record {
      taken = p.taken ++ piece;
      requests = p.requests;
      moments = p.moments;
      consumed = Consumes-trans left left' left'' p.taken piece p.consumed more;
      read = feed_on p.taken piece p.requests stream fed_stream p.read passed rest;
      gave = p.gave;
      each = p.each;
      going = p.going;
      size = omega (arith, p.size, size, length-append p.taken piece);
      within = within;
      wanted = wanted;
      serves = p.serves;
    }

    -- what is skipped, or awaited, is passed
    pub passes_on : (next : Stream) → IsReadAs p.taken p.requests next → At host next count left' clock' got'
    passes_on next read = record {
      taken = p.taken;
      requests = p.requests;
      moments = p.moments;
      consumed = p.consumed;
      read = read;
      gave = p.gave;
      each = p.each;
      going = p.going;
      size = p.size;
      within = p.within;
      wanted = p.wanted;
      serves = p.serves;
    }

    pub waits_on : (next : Stream) → Waits stream next → At host next count left' clock' got'
    waits_on next waits = passes_on next (more_on p.taken p.requests stream next p.read waits).0

    pub wants : (next : Stream) → Waits stream next → WantsMore p.taken p.requests
    wants next waits = (p.going, (length next.rest, (more_on p.taken p.requests stream next p.read waits).1))

    -- a piece that is taken then
    pub waited : (next : Stream) (waits : Waits stream next) (piece : List ℕ) → length piece ≤ 16384 → WasWanted ((waits_on next waits).taken ++ piece) (waits_on next waits).requests
    unfolding waits_on passes_on
    waited next waits piece few =
        record { before = p.taken; piece = piece; front = p.requests; more = []; taken_are = refl; short = few; requests_are = sym (append-nil p.requests); going = p.going; wanted = inr (wants next waits).1 }

    pub room : stream.passed + length stream.rest ≡ length p.taken
    room = omega (arith, p.read.passed, ap length p.read.whole, length-append (bytes_of p.read.spans) stream.rest)

    -- one request more
    more_events : (words : List (List ℕ)) (moment : ℕ) → served_events (p.requests ++ words ∷ []) (p.moments ++ moment ∷ []) ≡ served_events p.requests p.moments ++ request_events moment words
    more_events words moment = request_more p.requests p.moments words moment p.each

    more_wanted : (words : List (List ℕ)) → WasWanted p.taken (p.requests ++ words ∷ [])
    more_wanted words = record {
      before = p.wanted.before;
      piece = p.wanted.piece;
      front = p.wanted.front;
      more = p.wanted.more ++ words ∷ [];
      taken_are = p.wanted.taken_are;
      short = p.wanted.short;
      requests_are = ap (λ all. all ++ words ∷ []) p.wanted.requests_are ∙ append_assoc p.wanted.front p.wanted.more (words ∷ []);
      going = p.wanted.going;
      wanted = p.wanted.wanted;
    }

    more_each : (words : List (List ℕ)) (moment : ℕ) → length (p.moments ++ moment ∷ []) ≡ length (p.requests ++ words ∷ [])
    more_each words moment = omega (arith, p.each, length-append p.moments (moment ∷ []), length-append p.requests (words ∷ []))

    more_gave : (clock'' : ClockTold) (moment : ℕ) → Gave (moment ∷ []) clock' clock'' → Gave (p.moments ++ moment ∷ []) clock clock''
    more_gave clock'' moment gave = parts_told p.moments (moment ∷ []) clock.given clock'.given clock''.given p.gave gave

    module _ (next : Stream) (words : List (List ℕ)) (takes : Takes stream next words) (after : Host D) (clock'' : ClockTold) (got'' : Option (List ℕ)) where
      pub one_more : AtMoment clock' clock'' (λ moment. Serves told (request_events moment words) host after got' got'') → quits words ≡ false → At after next count left' clock'' got''
      one_more served goes = record {
        taken = p.taken;
        requests = p.requests ++ words ∷ [];
        moments = p.moments ++ served.0 ∷ [];
        consumed = p.consumed;
        read = request_on p.taken p.requests stream next words p.read takes;
        gave = more_gave clock'' served.0 served.1;
        each = more_each words served.0;
        going = none_more p.requests words p.going goes;
        size = p.size;
        within = p.within;
        wanted = more_wanted words;
        serves = subst (λ events. Serves told events before after got got'') (sym (more_events words served.0))
            (serves_both told before host after (served_events p.requests p.moments) (request_events served.0 words) got got' got'' p.serves served.2);
      }

      pub quit : AtMoment clock' clock'' (λ moment. Serves told (request_events moment words) host after got' got'') → quits words ≡ true → All after (seen left' clock'' got'') (IsAll (seen left' clock'' got''))
      quit served quits_now =
          let read = request_on p.taken p.requests stream next words p.read takes in
          record {
            taken = p.taken;
            requests = p.requests ++ words ∷ [];
            moments = p.moments ++ served.0 ∷ [];
            took = record {
              consumed = p.consumed;
              stream = next;
              read = read;
              within = omega (arith, p.size, p.within);
              served = last_served p.requests words p.going;
              wanted = more_wanted words;
              gave = more_gave clock'' served.0 served.1;
              each = more_each words served.0;
            };
            is = inl (
              some_quits p.requests words quits_now,
              subst (λ bytes. Served bytes (p.requests ++ words ∷ [])) (append-nil p.taken) (served_to_quit p.taken [] p.requests words next read p.going quits_now),
            );
            serves = subst (λ events. Serves told events before after got got'') (sym (more_events words served.0))
                (serves_both told before host after (served_events p.requests p.moments) (request_events served.0 words) got got' got'' p.serves served.2);
          }

      pub stops_serving : AtMoment clock' clock'' (λ moment. ServesPart told [] (request_events moment words) host after got' got'') → Part after (seen left' clock'' got'')
      stops_serving part = record {
        taken = p.taken;
        requests = p.requests ++ words ∷ [];
        moments = p.moments ++ part.0 ∷ [];
        end = End.Rest 0;
        took = record {
          consumed = p.consumed;
          stream = next;
          read = request_on p.taken p.requests stream next words p.read takes;
          within = omega (arith, p.size, p.within);
          served = last_served p.requests words p.going;
          wanted = more_wanted words;
          gave = more_gave clock'' part.0 part.1;
          each = more_each words part.0;
        };
        goes_on = tt;
        done = served_events p.requests p.moments;
        within = request_events part.0 words;
        stage = inr (record { front = p.requests; words = words; times = p.moments; moment = part.0; requests_are = refl; moments_are = refl; done_are = refl; within_are = refl; wanted = p.wanted });
        part = subst (λ done. ServesPart told done (request_events part.0 words) before after got got'') (append-nil (served_events p.requests p.moments))
            (serves_part told before host after (served_events p.requests p.moments) [] got got' got'' p.serves (request_events part.0 words) part.2);
      }

    -- what was told is a front of what the safe events told
    all_safe_now : (n : ℕ) × (tells host.kept.opening host.kept.events ≡ take n (safe_bytes host))
    all_safe_now =
        let bytes = tells host.kept.opening host.kept.events in
        let still = still_safe told host host [] p.serves.caught_up (ap (λ events. record host.kept { events = events }) (sym (append-nil host.kept.events))) (omega arith) in
        (length bytes, sym (ap (take (length bytes)) still.1 ∙ take-append_seam bytes still.0))

    -- memory ran out between two requests
    pub stops_between : (stream' : Stream) (left'' : Option (List ℕ)) (more : List ℕ) → Consumes left' left'' more → IsReadAs (p.taken ++ more) p.requests stream' → length (p.taken ++ more) ≤ 2 ^ 40 → WasWanted (p.taken ++ more) p.requests → Part host (seen left'' clock' got')
    stops_between stream' left'' more consumed read few wanted = record {
      taken = p.taken ++ more;
      requests = p.requests;
      moments = p.moments;
      end = End.Rest 0;
      took = record {
        consumed = Consumes-trans left left' left'' p.taken more p.consumed consumed;
        stream = stream';
        read = read;
        within = few;
        served = none_behind p.requests p.going;
        wanted = wanted;
        gave = p.gave;
        each = p.each;
      };
      goes_on = tt;
      done = served_events p.requests p.moments;
      within = [];
      stage = inl (refl, inl refl);
      part = whole_part told before host (served_events p.requests p.moments) got got' p.serves all_safe_now;
    }

    pub stops_here : Part host (seen left' clock' got')
    stops_here = stops_between stream left' [] (Consumes-nil left') (subst (λ bytes. IsReadAs bytes p.requests stream) (sym (append-nil p.taken)) p.read) (omega (arith, p.size, p.within, length-append p.taken []))
        (subst (λ bytes. WasWanted bytes p.requests) (sym (append-nil p.taken)) p.wanted)

    -- the source failed, or more came than is taken
    pub source_failed : (next : Stream) (left'' : Option (List ℕ)) → Waits stream next → Keeps left' left'' → All host (seen left'' clock' got') WantsMore
    source_failed next left'' waits kept = record {
      taken = p.taken;
      requests = p.requests;
      moments = p.moments;
      took = record {
        consumed = Consumes-kept left left' left'' p.taken p.consumed kept;
        stream = next;
        read = (more_on p.taken p.requests stream next p.read waits).0;
        within = omega (arith, p.size, p.within);
        served = none_behind p.requests p.going;
        wanted = p.wanted;
        gave = p.gave;
        each = p.each;
      };
      is = wants next waits;
      serves = p.serves;
    }

    pub limit_reached : (next : Stream) (left'' : Option (List ℕ)) (more : List ℕ) → Waits stream next → count ≡ 2 ^ 40 → Consumes left' left'' more → length more ≡ 1 → Limit host (seen left'' clock' got')
    limit_reached next left'' more waits full consumed one = record {
      front = p.taken;
      more = more;
      requests = p.requests;
      moments = p.moments;
      consumed = Consumes-trans left left' left'' p.taken more p.consumed consumed;
      full = sym p.size ∙ full;
      one = one;
      wants = wants next waits;
      gave = p.gave;
      each = p.each;
      serves = p.serves;
    }

    -- the input ended
    module _ (next : Stream) (left'' : Option (List ℕ)) (waits : Waits stream next) (none : Consumes left' left'' []) (at_end : IsAtEnd left'') where
      ended : (P : List ℕ → List (List (List ℕ)) → Type 0) → P p.taken p.requests → All host (seen left'' clock' got') P
      ended P is = record {
        taken = p.taken;
        requests = p.requests;
        moments = p.moments;
        took = record {
          consumed = subst (Consumes left left'') (append-nil p.taken) (Consumes-trans left left' left'' p.taken [] p.consumed none);
          stream = next;
          read = (more_on p.taken p.requests stream next p.read waits).0;
          within = omega (arith, p.size, p.within);
          served = none_behind p.requests p.going;
          wanted = p.wanted;
          gave = p.gave;
          each = p.each;
        };
        is = is;
        serves = p.serves;
      }

      pub ends_whole : next.rest ≡ [] → All host (seen left'' clock' got') (IsAll (seen left'' clock' got'))
      ends_whole nothing =
          ended (IsAll (seen left'' clock' got'))
          (inr (p.going, subst (λ n. Requests p.taken p.requests (End.Rest n)) (ap length nothing) (more_on p.taken p.requests stream next p.read waits).1, at_end))

      pub ends_within : 0 < length next.rest → All host (seen left'' clock' got') (λ taken requests. EndsWithin (seen left'' clock' got') taken requests (length next.rest))
      ends_within some =
          ended (λ taken requests. EndsWithin (seen left'' clock' got') taken requests (length next.rest))
          (p.going, (more_on p.taken p.requests stream next p.read waits).1, some, at_end)

      -- as the answer of `at_end` says
      pub ends_at_end : {T : Type 0} (result : Result T Status) → OnOk result (next.rest ≡ []) → IfErr result (λ end. (end ≡ status.CutOff (length next.rest)) × (0 < length next.rest))
          → SourceEnds (end_of result) told before host (seen left'' clock' got')
      ends_at_end (Ok done) whole cut = ends_whole whole
      ends_at_end (Err end) whole cut = subst (λ end. SourceEnds end told before host (seen left'' clock' got')) (sym cut.0) (ends_within cut.1)

    -- why no piece was taken
    pub source_stops : (next : Stream) (source source' : SourceTold) → source.left ≡ left' → Waits stream next → (end : Status) → TakeStops end count source source' → SourceEnds end told before host (seen source'.left clock' got')
    source_stops next source source' same waits status.ReadFault stops = source_failed next source'.left waits (subst (λ from. Keeps from source'.left) same stops.1)
    source_stops next source source' same waits status.TooLong stops =
        limit_reached next source'.left stops.2.0 waits stops.1 (subst (λ from. Consumes from source'.left stops.2.0) same stops.2.1) stops.2.2
    source_stops next source source' same waits status.Done stops = absurd stops
    source_stops next source source' same waits (status.Usage place) stops = absurd stops
    source_stops next source source' same waits (status.LogRefused file at why) stops = absurd stops
    source_stops next source source' same waits status.DirFault stops = absurd stops
    source_stops next source source' same waits status.WriteFault stops = absurd stops
    source_stops next source source' same waits status.Memory stops = absurd stops
    source_stops next source source' same waits (status.Protocol kind offset) stops = absurd stops
    source_stops next source source' same waits (status.CutOff n) stops = absurd stops
    source_stops next source source' same waits status.NumbersSpent stops = absurd stops
    source_stops next source source' same waits (status.NotBuilt what) stops = absurd stops

    -- a bad place
    pub refuses : (next : Stream) (kind : BadRequest) (offset : ℕ) → Refuses stream next kind offset → (after : Host D) (got'' : Option (List ℕ)) (end : Status)
        → RefuseEnds end kind offset told host after got' got'' → SourceEnds end told before after (seen left' clock' got'')
    refuses next kind offset bad after got'' end ends = by_end end ends
      where
        at_bad : IsReadAs p.taken p.requests next × Requests p.taken p.requests (End.Bad kind offset)
        at_bad = bad_on p.taken p.requests stream next kind offset p.read bad

        within : ServesPart told [] (end_events (End.Bad kind offset)) host after got' got'' → Part after (seen left' clock' got'')
        within part = record {
          taken = p.taken;
          requests = p.requests;
          moments = p.moments;
          end = End.Bad kind offset;
          took = record { consumed = p.consumed; stream = next; read = at_bad.0; within = omega (arith, p.size, p.within); served = none_behind p.requests p.going; wanted = p.wanted; gave = p.gave; each = p.each };
          goes_on = (p.going, at_bad.1);
          done = served_events p.requests p.moments;
          within = end_events (End.Bad kind offset);
          stage = inl (refl, inr refl);
          part = subst (λ done. ServesPart told done (end_events (End.Bad kind offset)) before after got got'') (append-nil (served_events p.requests p.moments))
              (serves_part told before host after (served_events p.requests p.moments) [] got got' got'' p.serves (end_events (End.Bad kind offset)) part);
        }

        refused : Serves told (end_events (End.Bad kind offset)) host after got' got'' → Bad after (seen left' clock' got'') kind offset
        refused served = record {
          taken = p.taken;
          requests = p.requests;
          moments = p.moments;
          took = record { consumed = p.consumed; stream = next; read = at_bad.0; within = omega (arith, p.size, p.within); served = none_behind p.requests p.going; wanted = p.wanted; gave = p.gave; each = p.each };
          going = p.going;
          bad = at_bad.1;
          serves = serves_both told before host after (served_events p.requests p.moments) (end_events (End.Bad kind offset)) got got' got'' p.serves served;
        }

        by_end : (end : Status) → RefuseEnds end kind offset told host after got' got'' → SourceEnds end told before after (seen left' clock' got'')
        by_end (status.Protocol kind' offset') ends =
            subst (λ n. Bad after (seen left' clock' got'') kind' n) (sym ends.1) (subst (λ k. Bad after (seen left' clock' got'') k offset) (sym ends.0) (refused ends.2))
        by_end status.DirFault ends = within ends.1
        by_end status.Memory ends = within ends.1
        by_end status.NumbersSpent ends = within ends.1
        by_end status.WriteFault ends = within ends.1
        by_end status.Done ends = absurd ends.0
        by_end (status.Usage place) ends = absurd ends.0
        by_end (status.LogRefused file at why) ends = absurd ends.0
        by_end status.ReadFault ends = absurd ends.0
        by_end (status.CutOff n) ends = absurd ends.0
        by_end status.TooLong ends = absurd ends.0
        by_end (status.NotBuilt what) ends = absurd ends.0

-- what a stop of serving is, as the end of a run
pub served_stop : {D : Type 0} (told : D → Told) (before after : Host D) (o : Outside) (end : Status) → IsServeStop end → StopsWithin o (λ done within. ServesPart told done within before after o.got o.got') → SourceEnds end told before after o
served_stop told before after o status.DirFault is within = within
served_stop told before after o status.Memory is within = within
served_stop told before after o status.NumbersSpent is within = within
served_stop told before after o status.WriteFault is within = within
served_stop told before after o status.Done is within = absurd is
served_stop told before after o (status.Usage place) is within = absurd is
served_stop told before after o (status.LogRefused file at why) is within = absurd is
served_stop told before after o status.ReadFault is within = absurd is
served_stop told before after o (status.Protocol kind offset) is within = absurd is
served_stop told before after o (status.CutOff n) is within = absurd is
served_stop told before after o status.TooLong is within = absurd is
served_stop told before after o (status.NotBuilt what) is within = absurd is

-- how a bad place that was refused ends
pub refusal_stops : {D : Type 0} (end : Status) (kind : BadRequest) (offset : ℕ) (told : D → Told) (before after : Host D) (got got' : Option (List ℕ)) → IsServeStop end
    → ServesPart told [] (end_events (End.Bad kind offset)) before after got got' → RefuseEnds end kind offset told before after got got'
refusal_stops status.DirFault kind offset told before after got got' is part = (is, part)
refusal_stops status.Memory kind offset told before after got got' is part = (is, part)
refusal_stops status.NumbersSpent kind offset told before after got got' is part = (is, part)
refusal_stops status.WriteFault kind offset told before after got got' is part = (is, part)
refusal_stops status.Done kind offset told before after got got' is part = absurd is
refusal_stops (status.Usage place) kind offset told before after got got' is part = absurd is
refusal_stops (status.LogRefused file at why) kind offset told before after got got' is part = absurd is
refusal_stops status.ReadFault kind offset told before after got got' is part = absurd is
refusal_stops (status.Protocol kind' offset') kind offset told before after got got' is part = absurd is
refusal_stops (status.CutOff n) kind offset told before after got got' is part = absurd is
refusal_stops status.TooLong kind offset told before after got got' is part = absurd is
refusal_stops (status.NotBuilt what) kind offset told before after got got' is part = absurd is

-- a spelling has a byte, so that less is left to read behind a request
spelled_some : (bytes : List ℕ) (words : List (List ℕ)) → Spells bytes words → 0 < length bytes
spelled_some bytes words (request, inl e) = omega (arith, ap length e)
spelled_some bytes words (request, inr line) = omega (arith, ap length line.whole, length-append line.line (10 ∷ []))

pub shorter : (stream next : Stream) (words : List (List ℕ)) → Takes stream next words → length next.rest < length stream.rest
shorter stream next words t =
    omega (arith, ap length t.passes.rest, length-append (concat t.skipped ++ t.bytes) next.rest, length-append (concat t.skipped) t.bytes, spelled_some t.bytes words t.spells)
