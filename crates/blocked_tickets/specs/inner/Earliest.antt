-- The earliest of a set of deadlines.
use Rattle.std.specs.Prelude.{◌≡◌, Option, None, Some, true, false}
use Rattle.std.specs.Ordering.{is_gt}
use Rattle.std.specs.FinSet as set
use Rattle.blocked_tickets.specs.declared.deadlines.Due.{Due}
use Rattle.blocked_tickets.specs.Due.{due_cmp}

-- it is in the set and none in the set comes before it, or the set is empty
abbrev pub IsEarliest : set.FinSet due_cmp → Option Due → Type 0
IsEarliest dues None = (d : Due) → set.contains dues d ≡ false
IsEarliest dues (Some due) = (set.contains dues due ≡ true)
    × ((d : Due) → set.contains dues d ≡ true → is_gt (due_cmp due d) ≡ false)
