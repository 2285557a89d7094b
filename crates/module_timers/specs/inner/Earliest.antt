-- The earliest of a set of deadlines that have come.
use Rattle.std.specs.Prelude.{◌≡◌, ℕ, List, [], ◌∷◌, Option, None, Some, true, false, nat_le}
use Rattle.std.specs.Prelude.{nat_lt, if◌then◌else◌}
use Rattle.std.specs.Ordering.{is_gt}
use Rattle.std.specs.FinSet as set
use Rattle.module_timers.specs.declared.dues.Due.{Due}
use Rattle.module_timers.specs.Due.{due_cmp}
use Rattle.module_timers.specs.TimerTable.{has_come}

-- it is in the set and has come, and no other such comes before it; or there is none
abbrev pub IsEarliest : set.FinSet due_cmp → ℕ → ℕ → Option ℕ → Type 0
IsEarliest dues now below None =
    (d : Due) → set.contains dues d ≡ true → has_come now below d ≡ false
IsEarliest dues now below (Some timer) =
    (due : Due) × (due.timer ≡ timer) × (set.contains dues due ≡ true)
    × (has_come now below due ≡ true)
    × ((d : Due) → set.contains dues d ≡ true → has_come now below d ≡ true
    → is_gt (due_cmp due d) ≡ false)

-- of a list in order, the first that has come and is below this number; behind the first that has
-- not come none has
abbrev pub first_come : ℕ → ℕ → List Due → Option ℕ
first_come now below [] = None
first_come now below (due ∷ dues) =
    if nat_le due.deadline now
    then (if nat_lt due.timer below then Some due.timer else first_come now below dues) else None
