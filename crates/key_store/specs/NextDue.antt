-- Which key is due first.
use Rattle.std.specs.Prelude.{◌≡◌, ◌<◌, ◌≤◌, false, ℕ, nat_lt, nat_le, if◌then◌else◌, List, [], ◌∷◌, Option, None, Some}
use Rattle.std.specs.Option.{option_map, option_and_then, MatchOption}
use Rattle.std.specs.Ordering.{nat_cmp, is_gt}
use Rattle.std.specs.Cmp.Lexicographic.{slice_cmp}
use Rattle.std.specs.List.{filter_map}
use Rattle.std.specs.FinMap as finite
use Rattle.core_types.specs.Keys.{Entry, KeysOf, deadline_at}

-- a key, and the moment at which it is due
pub record Due : Type 0 where
  pub key : List ℕ
  pub moment : ℕ

-- the sooner of two; of two that are due at one moment, the first
abbrev pub sooner : Due → Option Due → Due
sooner due None = due
sooner due (Some other) = if nat_lt other.moment due.moment then other else due

-- the soonest of all; of those that are due at one moment, the first
abbrev pub soonest : List Due → Option Due
soonest [] = None
soonest (due ∷ dues) = Some (sooner due (soonest dues))

-- a key with this deadline, where it is due now
abbrev pub due_at : ℕ → List ℕ → Option ℕ → Option Due
due_at now key deadline =
    option_and_then
    (λ moment. if nat_le moment now then Some (record { key = key; moment = moment }) else None)
    deadline

module _ {N : Type 0} where
  -- those of the entries that are due now, in their order
  abbrev pub dues : ℕ → List (List ℕ × Entry N) → List Due
  dues now entries = filter_map (λ e. due_at now e.0 e.1.deadline) entries

  -- the key that is due first: of those whose deadline is at most now the one of the least
  -- deadline, and of several of that deadline the first in byte order
  abbrev pub next_due : KeysOf N → ℕ → Option (List ℕ)
  next_due keys now = option_map (λ due. due.key) (soonest (dues now (finite.entries keys)))

  -- this key is due, no key has an earlier deadline, and of those of the same deadline none is
  -- before it in byte order
  pub record IsFirst (keys : KeysOf N) (now : ℕ) (key : List ℕ) : Type 0 where
    pub moment : ℕ
    pub deadline : deadline_at keys key ≡ Some moment
    pub come : moment ≤ now
    pub earliest : (other : List ℕ) (at : ℕ) → deadline_at keys other ≡ Some at → moment ≤ at
    pub first : (other : List ℕ) → deadline_at keys other ≡ Some moment
        → is_gt (slice_cmp nat_cmp key other) ≡ false

  -- each deadline is later than now
  abbrev pub NoneIsDue : KeysOf N → ℕ → Type 0
  NoneIsDue keys now = (key : List ℕ) (at : ℕ) → deadline_at keys key ≡ Some at → now < at

  -- the key that is due first, or none, where no key is due
  abbrev pub IsNextDue : KeysOf N → ℕ → Option (List ℕ) → Type 0
  IsNextDue keys now first = MatchOption first (NoneIsDue keys now) (IsFirst keys now)
