-- Events with their numbers in a history.
use Rattle.std.specs.Prelude.{ℕ, ◌+◌, ◌<◌, ◌==◌, ⊤, cond, nat_lt, if◌then◌else◌, List, [], ◌∷◌}
use Rattle.std.specs.List.{AllByRecursion}
use Rattle.core_types.specs.declared.event.Event.{Event}
use Rattle.context_lock.specs.declared.view.Pair.{Pair}

-- the events have the numbers from this one on
abbrev pub numbered : ℕ → List Event → List Pair
numbered number [] = []
numbered number (event ∷ events) =
    record { number = number; event = event } ∷ numbered (number + 1) events

-- the numbers rise
abbrev pub Rising : List Pair → Type 0
Rising [] = ⊤
Rising (pair ∷ pairs) = AllByRecursion (λ later. pair.number < later.number) pairs × Rising pairs

-- a pair comes in before the first one of a greater number
abbrev pub placed : Pair → List Pair → List Pair
placed pair [] = pair ∷ []
placed pair (other ∷ others) =
    if nat_lt pair.number other.number then pair ∷ other ∷ others
    else other ∷ placed pair others

-- two lists of pairs, merged by number
abbrev pub merged : List Pair → List Pair → List Pair
merged pairs [] = pairs
merged pairs (other ∷ others) = merged (placed other pairs) others

-- how often a number stands in the list
abbrev pub times : ℕ → List Pair → ℕ
times number [] = 0
times number (pair ∷ pairs) = (if pair.number == number then 1 else 0) + times number pairs

-- 1 for the numbers from one on and below another, and 0 for all others
abbrev pub once_within : ℕ → ℕ → ℕ → ℕ
once_within from to number =
    if nat_lt number to then (if nat_lt number from then 0 else 1) else 0
