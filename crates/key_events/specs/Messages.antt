-- What subscribers are told of an event of a key, and in which order.
use Rattle.std.specs.Prelude.{ℕ, if◌then◌else◌, List, [], ◌∷◌, ◌++◌, length, map, filter, codes}
use Rattle.std.specs.List.{flat_map}
use Rattle.std.specs.FinMap as finite
use Rattle.core_types.specs.declared.note.Note.{Note}
use Rattle.core_types.specs.declared.outs.Out.{Out}
use Rattle.core_types.specs.declared.part.Part.TheVariants as part
use Rattle.core_types.specs.declared.reply.Reply.{Reply}
use Rattle.core_types.specs.declared.reply.Reply.TheVariants as reply
use Rattle.key_events.specs.Patterns.{matches}
use Rattle.key_events.specs.Rolls.{NameList, has_name}
use Rattle.key_events.specs.Subscribers.{Subscribers}

-- the channel of all events of a key
abbrev pub keyspace_channel : List ℕ → List ℕ
keyspace_channel key = codes "__keyspace@0__:" ++ key

-- the channel of an event of all keys
abbrev pub keyevent_channel : List ℕ → List ℕ
keyevent_channel event = codes "__keyevent@0__:" ++ event

-- an array of these byte strings
abbrev pub array_of : List (List ℕ) → Reply
array_of texts = reply.Array (record { count = length texts; parts = map part.Bulk texts })

abbrev pub message : List ℕ → List ℕ → Reply
message channel payload = array_of (codes "message" ∷ channel ∷ payload ∷ [])

abbrev pub pattern_message : List ℕ → List ℕ → List ℕ → Reply
pattern_message pattern channel payload =
    array_of (codes "pmessage" ∷ pattern ∷ channel ∷ payload ∷ [])

abbrev pub to : ℕ → Reply → Out
to client reply = record { client = client; reply = reply }

-- a client with its channels: one message, where it has this one
abbrev pub by_channel : List ℕ → List ℕ → ℕ × NameList → List Out
by_channel channel payload client =
    if has_name channel client.1 then to client.0 (message channel payload) ∷ [] else []

-- a client with its patterns: one message for each that matches, the oldest first
abbrev pub by_patterns : List ℕ → List ℕ → ℕ × NameList → List Out
by_patterns channel payload client =
    map (λ pattern. to client.0 (pattern_message pattern channel payload))
    (filter (λ pattern. matches pattern channel) client.1)

-- what is told on a channel: first to those who have it, then to those whose patterns match it, and
-- both by rising number
abbrev pub told : Subscribers → List ℕ → List ℕ → List Out
told subscribers channel payload =
    flat_map (by_channel channel payload) (finite.entries subscribers.channels)
    ++ flat_map (by_patterns channel payload) (finite.entries subscribers.patterns)

-- first the event is told on the channel of its key, then the key on the channel of its event
abbrev pub messages : Subscribers → Note → List Out
messages subscribers note =
    told subscribers (keyspace_channel note.key) note.name
    ++ told subscribers (keyevent_channel note.name) note.key
