-- The timers that are set, and each step on them.
use Rattle.std.specs.Prelude.{ℕ, ◌+◌, ◌==◌, ◌&&◌, Bool, false, nat_le, nat_lt, if◌then◌else◌, List}
use Rattle.std.specs.Prelude.{filter, map, Option, refl}
use Rattle.std.specs.Option.{option_map, option_map_or}
use Rattle.std.specs.Ordering.{nat_cmp}
use Rattle.std.specs.FinMap as finite
use Rattle.std.specs.Coded.{Coded, code_by, coded×, coded_ℕ}
use Rattle.module_timers.specs.declared.dues.Due.{Due}
use Rattle.module_timers.specs.declared.timer.Timer.{Timer}
use Rattle.module_timers.specs.contracts.timer.Timer as timer
use Rattle.module_timers.specs.Due.{soonest}

-- the timers that are set, by number
abbrev pub TimerMap : Type 0
TimerMap = finite.FinMap nat_cmp Timer

abbrev pub coded_timers : Coded TimerMap
coded_timers = finite.code coded_ℕ (timer.the_row).coded

-- the timers that are set, and the number of the next timer
pub record TimerTable : Type 0 where
  pub timers : TimerMap
  pub next : ℕ

abbrev pub coded_table : Coded TimerTable
coded_table = code_by (TimerMap × ℕ) (coded× coded_timers coded_ℕ) (λ t. (t.timers, t.next))
    (λ p. record { timers = p.0; next = p.1 }) (λ _. refl)

-- ---- what a table shows

-- the timer of a number, where it is set
abbrev pub timer_at : TimerTable → ℕ → Option Timer
timer_at table number = finite.get table.timers number

-- whether the timer of a number is set and of the module at this place
abbrev pub is_of : TimerTable → ℕ → ℕ → Bool
is_of table place number = option_map_or (λ t. t.place == place) (timer_at table number) false

-- the deadlines of all timers
abbrev pub deadlines : TimerTable → List Due
deadlines table = map (λ e. record { deadline = e.1.deadline; timer = e.0 })
    (finite.entries table.timers)

-- whether a deadline has come, and is that of a timer below this number
abbrev pub has_come : ℕ → ℕ → Due → Bool
has_come now below due = nat_le due.deadline now && nat_lt due.timer below

-- the timer that fires now: of those below this number whose deadline has come, the one of the
-- least deadline, then of the least number
abbrev pub due_at : TimerTable → ℕ → ℕ → Option ℕ
due_at table now below =
    option_map (λ due. due.timer) (soonest (filter (has_come now below) (deadlines table)))

-- ---- the steps

abbrev pub no_timers : TimerTable
no_timers = record { timers = finite.empty; next = 1 }

-- with a new timer, which has the next number
abbrev pub started : TimerTable → Timer → TimerTable
started table timer =
    record { timers = finite.insert table.timers table.next timer; next = table.next + 1 }

-- without the timer of a number
abbrev pub without : TimerTable → ℕ → TimerTable
without table number = record table { timers = finite.remove table.timers number }

-- without it, where it is of the module at this place
abbrev pub stopped : TimerTable → ℕ → ℕ → TimerTable
stopped table place number = if is_of table place number then without table number else table
