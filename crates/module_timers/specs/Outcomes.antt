-- When a timer is set, and when each fault comes.
use Rattle.std.specs.Prelude.{◌≡◌, ℕ, ◌<◌, ◌^◌, ◌-◌, Result, Ok, Err}
use Rattle.std.specs.FinMap as finite
use Rattle.module_timers.specs.declared.timer_fault.TimerFault.{TimerFault}
use Rattle.module_timers.specs.declared.timer_fault.TimerFault.TheVariants.{Full, NumbersSpent}
use Rattle.module_timers.specs.declared.timer_fault.TimerFault.TheVariants.{Memory}
use Rattle.module_timers.specs.TimerTable.{TimerTable}

-- the most timers that are set at one time
abbrev pub most_set : ℕ
most_set = 65536

-- there is room for a timer, and a number
abbrev pub CanStart : TimerTable → Type 0
CanStart table = (finite.len table.timers < most_set) × (table.next < 2 ^ 64 - 1)

abbrev pub StartCause : TimerTable → Result ℕ TimerFault → Type 0
StartCause table (Ok number) = CanStart table
StartCause table (Err Full) = finite.len table.timers ≡ most_set
StartCause table (Err NumbersSpent) = (finite.len table.timers < most_set)
    × (table.next ≡ 2 ^ 64 - 1)
StartCause table (Err Memory) = CanStart table
