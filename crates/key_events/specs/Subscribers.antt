-- The channels and the patterns of each client, and each step on them.
use Rattle.std.specs.Prelude.{ℕ, ◌+◌, ◌==◌, ◌&&◌, Bool, true, false, List, length, slice_get, Option}
use Rattle.std.specs.Prelude.{refl}
use Rattle.std.specs.List.{list_any}
use Rattle.std.specs.FinMap as map
use Rattle.std.specs.Coded.{Coded, code_by, coded×}
use Rattle.key_events.specs.Rolls.{RollMap, NameList, coded_roll, has_name, names_at, with_name}
use Rattle.key_events.specs.Rolls.{without_name, without_client}

-- the channels of each client that has one, and the patterns, each the oldest first
pub record Subscribers : Type 0 where
  pub channels : RollMap
  pub patterns : RollMap

abbrev pub coded_subscribers : Coded Subscribers
coded_subscribers =
    code_by (RollMap × RollMap) (coded× coded_roll coded_roll) (λ s. (s.channels, s.patterns))
    (λ p. record { channels = p.0; patterns = p.1 }) (λ _. refl)

-- the most channels and patterns that a client has
abbrev pub most_names : ℕ
most_names = 1024

-- ---- what is held

-- the patterns, or the channels
abbrev pub roll_of : Bool → Subscribers → RollMap
roll_of true subscribers = subscribers.patterns
roll_of false subscribers = subscribers.channels

-- a client's patterns, or its channels
abbrev pub names_of : Subscribers → ℕ → Bool → NameList
names_of subscribers client pattern = names_at (roll_of pattern subscribers) client

abbrev pub count_of : Subscribers → ℕ → ℕ
count_of subscribers client =
    length (names_at subscribers.channels client) + length (names_at subscribers.patterns client)

abbrev pub is_subscribed : Subscribers → ℕ → List ℕ → Bool → Bool
is_subscribed subscribers client name pattern = has_name name (names_of subscribers client pattern)

abbrev pub oldest : Subscribers → ℕ → Bool → Option (List ℕ)
oldest subscribers client pattern = slice_get (names_of subscribers client pattern) 0

-- whether a name is a pattern with a class, which begins with `[`
abbrev pub has_class : List ℕ → Bool → Bool
has_class name pattern = pattern && list_any (λ byte. byte == 91) name

-- ---- the steps

abbrev pub nobody : Subscribers
nobody = record { channels = map.empty; patterns = map.empty }

-- with the patterns changed, or the channels
abbrev pub with_roll : Bool → RollMap → Subscribers → Subscribers
with_roll true roll subscribers = record subscribers { patterns = roll }
with_roll false roll subscribers = record subscribers { channels = roll }

-- a client has a name more, behind the others, where it has it not yet
abbrev pub subscribed : Subscribers → ℕ → List ℕ → Bool → Subscribers
subscribed subscribers client name pattern =
    with_roll pattern (with_name (roll_of pattern subscribers) client name) subscribers

-- and without a name
abbrev pub unsubscribed : Subscribers → ℕ → List ℕ → Bool → Subscribers
unsubscribed subscribers client name pattern =
    with_roll pattern (without_name (roll_of pattern subscribers) client name) subscribers

-- a client has none
abbrev pub dropped : Subscribers → ℕ → Subscribers
dropped subscribers client = record {
  channels = without_client subscribers.channels client;
  patterns = without_client subscribers.patterns client;
}
