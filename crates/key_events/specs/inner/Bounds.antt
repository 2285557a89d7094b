-- No client has more names than it may, and whether one has any.
use Rattle.std.specs.Prelude.{ℕ, ◌≤◌, ◌==◌, ◌&&◌, Bool}
use Rattle.std.specs.FinMap as map
use Rattle.key_events.specs.Subscribers.{Subscribers, count_of, most_names}

abbrev pub AreFew : Subscribers → Type 0
AreFew subscribers = (client : ℕ) → count_of subscribers client ≤ most_names

-- whether no client has a channel or a pattern
abbrev pub have_none : Subscribers → Bool
have_none subscribers =
    (map.len subscribers.channels == 0) && (map.len subscribers.patterns == 0)
