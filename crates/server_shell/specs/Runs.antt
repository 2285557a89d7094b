-- The events that serving a stream of requests makes. The stream is that of client 1.
use Rattle.std.specs.Prelude.{ℕ, List, [], ◌∷◌, ◌++◌, drop, get_or}
use Rattle.core_types.specs.declared.event.Event.{Event}
use Rattle.core_types.specs.declared.event.Event.TheVariants as event
use Rattle.resp_codec.specs.Requests.{End}

-- A request is served at the moment that the clock shows: the keys that are due then go, it
-- arrives, and what was changed and told by then is flushed.
abbrev pub request_events : ℕ → List (List ℕ) → List Event
request_events moment words =
    event.Tick moment ∷ event.Arrive 1 words ∷ event.Flush ∷ []

-- requests one after the other, each at the next of these moments
abbrev pub served_events : List (List (List ℕ)) → List ℕ → List Event
served_events [] moments = []
served_events (words ∷ more) moments =
    request_events (get_or moments 0 0) words ++ served_events more (drop 1 moments)

-- a bad place is told the client
abbrev pub end_events : End → List Event
end_events (End.Rest count) = []
end_events (End.Bad kind offset) = event.Malformed 1 kind ∷ event.Flush ∷ []

-- client 1 comes, these events follow, and it goes
abbrev pub stream_events : List Event → List Event
stream_events events = event.Join 1 ∷ events ++ event.Gone 1 ∷ []
