-- Laws on the timers, over every table.
use Rattle.std.specs.Prelude.{◌≡◌, ℕ, ◌<◌, ◌≤◌, ◌⊎◌, Option, Some, MatchOption}
use Rattle.std.specs.Option.{option_map}
use Rattle.module_timers.specs.TimerTable.{TimerTable, timer_at, due_at}

-- the deadline of the timer of a number, where it is set
abbrev pub deadline_of : TimerTable → ℕ → Option ℕ
deadline_of table number = option_map (λ t. t.deadline) (timer_at table number)

-- this timer is below a number, and its deadline has come
abbrev pub IsDue : TimerTable → ℕ → ℕ → ℕ → ℕ → Type 0
IsDue table now below number deadline =
    (deadline_of table number ≡ Some deadline) × (deadline ≤ now) × (number < below)

-- one comes before another, or is it
abbrev pub NoLater : ℕ → ℕ → ℕ → ℕ → Type 0
NoLater deadline number other_deadline other = (deadline < other_deadline)
    ⊎ ((deadline ≡ other_deadline) × (number ≤ other))

-- the timer that is due comes before all that are due too, and where none is due there is none such
abbrev pub FirstIsDue : Type 0
FirstIsDue =
    (table : TimerTable) (now below : ℕ)
    → MatchOption (due_at table now below)
    ((number deadline : ℕ) → IsDue table now below number deadline → ⊥)
    (λ first. (deadline : ℕ) × IsDue table now below first deadline
    × ((number d : ℕ) → IsDue table now below number d → NoLater deadline first d number))
