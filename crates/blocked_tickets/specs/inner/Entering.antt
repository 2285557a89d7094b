-- What a ticket adds to the indexes.
use Rattle.std.specs.Prelude.{ℕ, Option, None, Some}
use Rattle.std.specs.Ordering.{nat_cmp}
use Rattle.std.specs.FinMap as map
use Rattle.std.specs.FinSet as set
use Rattle.blocked_tickets.specs.Due.{due_cmp}

abbrev pub with_deadline : set.FinSet due_cmp → ℕ → Option ℕ → set.FinSet due_cmp
with_deadline dues ticket None = dues
with_deadline dues ticket (Some d) = set.insert dues (record { deadline = d; ticket = ticket })

abbrev pub without_deadline : set.FinSet due_cmp → ℕ → Option ℕ → set.FinSet due_cmp
without_deadline dues ticket None = dues
without_deadline dues ticket (Some d) = set.remove dues (record { deadline = d; ticket = ticket })

abbrev pub without_client : map.FinMap nat_cmp ℕ → Option ℕ → map.FinMap nat_cmp ℕ
without_client waiters None = waiters
without_client waiters (Some client) = map.remove waiters client
