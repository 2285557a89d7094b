-- The index of the deadlines agrees with the timers.
use Rattle.std.specs.Prelude.{◌≡◌, ◌==◌, ℕ, ◌<◌, ◌≤◌, ◌^◌, Bool, false, IsSome}
use Rattle.std.specs.Option.{option_map_or}
use Rattle.std.specs.FinMap as finite
use Rattle.std.specs.FinSet as set
use Rattle.module_timers.specs.declared.dues.Due.{Due}
use Rattle.module_timers.specs.Due.{due_cmp}
use Rattle.module_timers.specs.Laws.{deadline_of}
use Rattle.module_timers.specs.Outcomes.{most_set}
use Rattle.module_timers.specs.TimerTable.{TimerMap, TimerTable, timer_at}

-- whether the timer has this deadline
abbrev pub has_deadline : TimerTable → Due → Bool
has_deadline table due = option_map_or (λ d. d == due.deadline) (deadline_of table due.timer) false

-- the table that these parts make
abbrev pub table_of : TimerMap → ℕ → TimerTable
table_of timers next = record { timers = timers; next = next }

pub record Indexed (dues : set.FinSet due_cmp) (table : TimerTable) : Type 0 where
  pub agree : (due : Due) → set.contains dues due ≡ has_deadline table due
  -- each number that is set was given
  pub given : (number : ℕ) → IsSome (timer_at table number) → number < table.next
  pub few : finite.len table.timers ≤ most_set
  pub next_fits : table.next < 2 ^ 64
