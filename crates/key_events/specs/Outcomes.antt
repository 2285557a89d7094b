-- When a client is subscribed, and when each fault comes.
use Rattle.std.specs.Prelude.{◌≡◌, ℕ, ◌<◌, ◌⊎◌, Bool, true, false, List, Result, Ok, Err}
use Rattle.key_events.specs.declared.channel_fault.ChannelFault.{ChannelFault}
use Rattle.key_events.specs.declared.channel_fault.ChannelFault.TheVariants.{TooMany, Class, Memory}
use Rattle.key_events.specs.Subscribers.{Subscribers, has_class, is_subscribed, count_of, most_names}

-- the name has no class, and it is there already or there is room for it
abbrev pub CanSubscribe : Subscribers → ℕ → List ℕ → Bool → Type 0
CanSubscribe subscribers client name pattern =
    (has_class name pattern ≡ false)
    × ((is_subscribed subscribers client name pattern ≡ true)
    ⊎ (count_of subscribers client < most_names))

-- memory is wanted only for a name that is new
abbrev pub SubscribeCause : Subscribers → ℕ → List ℕ → Bool → Result ℕ ChannelFault → Type 0
SubscribeCause subscribers client name pattern (Ok count) =
    CanSubscribe subscribers client name pattern
SubscribeCause subscribers client name pattern (Err Class) = has_class name pattern ≡ true
SubscribeCause subscribers client name pattern (Err TooMany) =
    (has_class name pattern ≡ false)
    × (is_subscribed subscribers client name pattern ≡ false)
    × (count_of subscribers client ≡ most_names)
SubscribeCause subscribers client name pattern (Err Memory) =
    (has_class name pattern ≡ false)
    × (is_subscribed subscribers client name pattern ≡ false)
    × (count_of subscribers client < most_names)
