-- How serving the stream of a source ends.
use Rattle.std.specs.Prelude.{◌≡◌, ◌<◌, ◌≤◌, ◌⊎◌, ◌^◌, ℕ, Bool, true, false, List, [], ◌∷◌, ◌++◌, length, Option}
use Rattle.std.specs.List.{list_any}
use Rattle.std.specs.Io.KnownBytes.{Consumes, IsAtEnd}
use Rattle.core_types.specs.declared.bad_request.BadRequest.{BadRequest}
use Rattle.core_types.specs.declared.event.Event.{Event}
use Rattle.core_types.specs.declared.event.Event.TheVariants as event
use Rattle.disk_model.specs.Told.{Told}
use Rattle.io_edges.specs.Told.{ClockTold, Gave, SinkTold, SourceTold}
use Rattle.resp_codec.specs.Requests.{End, IsReadAs, Requests, Served, quits, up_to_quit}
use Rattle.resp_codec.specs.Stream.{Stream}
use Rattle.durable_host.specs.Host.{Host}
use Rattle.server_shell.specs.Faults.{IsOwnStop}
use Rattle.server_shell.specs.Requests.{Serves, ServesPart, ServesToEnd}
use Rattle.server_shell.specs.Runs.{end_events, request_events, served_events, stream_events}
use Rattle.server_shell.specs.declared.status.Status.{Status}
use Rattle.server_shell.specs.declared.status.Status.TheVariants as status

-- what a source, a clock and a sink tell before and after
pub record Outside : Type 0 where
  pub left : Option (List ℕ)
  pub left' : Option (List ℕ)
  pub clock : ClockTold
  pub clock' : ClockTold
  pub got : Option (List ℕ)
  pub got' : Option (List ℕ)

-- what they tell, before and after
abbrev pub outside_of : (source source' : SourceTold) (clock clock' : ClockTold)
    (sink sink' : SinkTold) → Outside
outside_of source source' clock clock' sink sink' = record {
  left = source.left;
  left' = source'.left;
  clock = clock;
  clock' = clock';
  got = sink.got;
  got' = sink'.got;
}

-- the same, where the source and the clock tell this and were not asked
abbrev pub unread : Option (List ℕ) → ClockTold → (sink sink' : SinkTold) → Outside
unread left clock sink sink' = record {
  left = left;
  left' = left;
  clock = clock;
  clock' = clock;
  got = sink.got;
  got' = sink'.got;
}

-- The last of the bytes were taken at once, 16,384 at the most, when more was wanted: those before
-- them end within a request, and their requests are the first of these, none of them QUIT; or there
-- were none before.
pub record WasWanted (taken : List ℕ) (requests : List (List (List ℕ))) : Type 0 where
  pub before : List ℕ
  pub piece : List ℕ
  pub front : List (List (List ℕ))
  pub more : List (List (List ℕ))
  pub taken_are : taken ≡ before ++ piece
  pub short : length piece ≤ 16384
  pub requests_are : requests ≡ front ++ more
  pub going : list_any quits front ≡ false
  pub wanted : (before ≡ []) ⊎ ((count : ℕ) × Requests before front (End.Rest count))

-- These bytes were taken of the source, 2^40 at the most, a front of them spells these requests, of
-- which none stands behind a QUIT, and for each of them the clock gave a moment.
pub record Took (o : Outside) (taken : List ℕ) (requests : List (List (List ℕ)))
    (moments : List ℕ) : Type 0 where
  pub consumed : Consumes o.left o.left' taken
  pub within : length taken ≤ 2 ^ 40
  pub stream : Stream
  pub read : IsReadAs taken requests stream
  pub served : up_to_quit requests ≡ requests
  pub wanted : WasWanted taken requests
  pub gave : Gave moments o.clock o.clock'
  pub each : length moments ≡ length requests

-- no request is QUIT
abbrev pub NoneQuits : List (List (List ℕ)) → Type 0
NoneQuits requests = list_any quits requests ≡ false

-- the requests are all that are served of the bytes: up to and with a QUIT, or to the end of the
-- input
abbrev pub IsAll : Outside → List ℕ → List (List (List ℕ)) → Type 0
IsAll o taken requests =
    ((list_any quits requests ≡ true) × Served taken requests)
    ⊎ (NoneQuits requests × Requests taken requests (End.Rest 0) × IsAtEnd o.left')

-- the input ends this many bytes into a request
abbrev pub EndsWithin : Outside → List ℕ → List (List (List ℕ)) → ℕ → Type 0
EndsWithin o taken requests count =
    NoneQuits requests × Requests taken requests (End.Rest count) × (0 < count) × IsAtEnd o.left'

-- more bytes are wanted
abbrev pub WantsMore : List ℕ → List (List (List ℕ)) → Type 0
WantsMore taken requests =
    NoneQuits requests × ((count : ℕ) × Requests taken requests (End.Rest count))

-- the bytes go on with this, where it is a bad place
abbrev pub GoesOnTo : List ℕ → List (List (List ℕ)) → End → Type 0
GoesOnTo taken requests (End.Rest count) = Unit {0}
GoesOnTo taken requests (End.Bad kind offset) =
    NoneQuits requests × Requests taken requests (End.Bad kind offset)

-- All requests were served, what they were is so, and that of the events.
pub record ServesAll (o : Outside) (P : List ℕ → List (List (List ℕ)) → Type 0)
    (R : List Event → Type 0) : Type 0 where
  pub taken : List ℕ
  pub requests : List (List (List ℕ))
  pub moments : List ℕ
  pub took : Took o taken requests moments
  pub is : P taken requests
  pub serves : R (served_events requests moments)

-- They were, and then a bad place was told.
pub record Refuses (o : Outside) (kind : BadRequest) (offset : ℕ) (R : List Event → Type 0)
    : Type 0 where
  pub taken : List ℕ
  pub requests : List (List (List ℕ))
  pub moments : List ℕ
  pub took : Took o taken requests moments
  pub going : NoneQuits requests
  pub bad : Requests taken requests (End.Bad kind offset)
  pub serves : R (served_events requests moments ++ end_events (End.Bad kind offset))

-- They were up to 2^40 bytes of the input, and one more came.
pub record ServesLimit (o : Outside) (R : List Event → Type 0) : Type 0 where
  pub front : List ℕ
  pub more : List ℕ
  pub requests : List (List (List ℕ))
  pub moments : List ℕ
  pub consumed : Consumes o.left o.left' (front ++ more)
  pub full : length front ≡ 2 ^ 40
  pub one : length more ≡ 1
  pub wants : WantsMore front requests
  pub gave : Gave moments o.clock o.clock'
  pub each : length moments ≡ length requests
  pub serves : R (served_events requests moments)

-- Of these requests the last is not served to its end. What was taken was wanted for those before
-- it.
pub record IsInLast (taken : List ℕ) (requests : List (List (List ℕ))) (moments : List ℕ)
    (done within : List Event) : Type 0 where
  pub front : List (List (List ℕ))
  pub words : List (List ℕ)
  pub times : List ℕ
  pub moment : ℕ
  pub requests_are : requests ≡ front ++ words ∷ []
  pub moments_are : moments ≡ times ++ moment ∷ []
  pub done_are : done ≡ served_events front times
  pub within_are : within ≡ request_events moment words
  pub wanted : WasWanted taken front

-- how far serving came: all requests are served, and it stopped behind them or at a bad place
-- there, or it stopped in the last one
abbrev pub IsStage : List ℕ → List (List (List ℕ)) → List ℕ → End → (done within : List Event)
    → Type 0
IsStage taken requests moments end done within =
    ((done ≡ served_events requests moments) × ((within ≡ []) ⊎ (within ≡ end_events end)))
    ⊎ IsInLast taken requests moments done within

-- Of these requests, and of a bad place behind them, all events were made but for the last ones,
-- and then the run stopped.
pub record StopsWithin (o : Outside) (R : (done within : List Event) → Type 0) : Type 0 where
  pub taken : List ℕ
  pub requests : List (List (List ℕ))
  pub moments : List ℕ
  pub end : End
  pub took : Took o taken requests moments
  pub goes_on : GoesOnTo taken requests end
  pub done : List Event
  pub within : List Event
  pub stage : IsStage taken requests moments end done within
  pub part : R done within

-- How serving ends, by its end: what is so of the events of a stream that came to its end, and of
-- one that goes on; and what is so where it was stopped. Serving has no end that is not named.
abbrev pub Ends : Status → Outside → (whole going : List Event → Type 0) → Type 0 → Type 0
Ends status.Done o whole going stop = ServesAll o (IsAll o) whole
Ends (status.CutOff count) o whole going stop =
    ServesAll o (λ taken requests. EndsWithin o taken requests count) whole
Ends (status.Protocol kind offset) o whole going stop = Refuses o kind offset whole
Ends status.ReadFault o whole going stop = ServesAll o WantsMore going
Ends status.TooLong o whole going stop = ServesLimit o going
Ends status.DirFault o whole going stop = stop
Ends status.Memory o whole going stop = stop
Ends status.NumbersSpent o whole going stop = stop
Ends status.WriteFault o whole going stop = stop
Ends other o whole going stop = ⊥

-- whether the stream came to its end, so that its client goes
abbrev pub is_over : Status → Bool
is_over status.Done = true
is_over (status.CutOff count) = true
is_over (status.Protocol kind offset) = true
is_over other = false

-- the requests of a source
abbrev pub SourceEnds : {D : Type 0} → Status → (D → Told) → Host D → Host D → Outside → Type 0
SourceEnds end told before after o =
    Ends end o (λ events. Serves told events before after o.got o.got')
    (λ events. Serves told events before after o.got o.got')
    (StopsWithin o (λ done within. ServesPart told done within before after o.got o.got'))

-- The run stopped as client 1 came, and nothing was read. It asks nothing of the directory.
pub record StopsFirst {D : Type 0} (stop : Status) (told : D → Told) (before after : Host D)
    (o : Outside) : Type 0 where
  pub own : IsOwnStop stop
  pub left : o.left' ≡ o.left
  pub clock : o.clock' ≡ o.clock
  pub part : ServesPart told [] (event.Join 1 ∷ []) before after o.got o.got'

-- The stream came to its end, and the run stopped as client 1 went, which asks nothing of the
-- directory.
pub record StopsLast {D : Type 0} (stop : Status) (told : D → Told) (before after : Host D)
    (o : Outside) : Type 0 where
  pub own : IsOwnStop stop
  pub end : Status
  pub over : is_over end ≡ true
  pub stream : Ends end o
      (λ events. ServesPart told (event.Join 1 ∷ events) (event.Gone 1 ∷ []) before after o.got o.got')
      (λ events. ⊥) ⊥

-- Client 1 comes before them, and goes where its stream came to its end.
abbrev pub PipeEnds : {D : Type 0} → Status → (D → Told) → Host D → Host D → Outside → Type 0
PipeEnds end told before after o =
    Ends end o (λ events. ServesToEnd told (stream_events events) before after o.got o.got')
    (λ events. Serves told (event.Join 1 ∷ events) before after o.got o.got')
    (StopsFirst end told before after o
    ⊎ StopsWithin o
    (λ done within. ServesPart told (event.Join 1 ∷ done) within before after o.got o.got')
    ⊎ StopsLast end told before after o)
