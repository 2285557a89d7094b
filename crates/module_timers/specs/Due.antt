-- Deadlines with the numbers of their timers, and which comes first.
use Rattle.std.specs.Prelude.{ℕ, List, [], ◌∷◌, cond, Option, None, Some, refl}
use Rattle.std.specs.Coded.{Coded, code_by, coded×, coded_ℕ}
use Rattle.std.specs.declared.cmp.Ordering.{Ordering}
use Rattle.std.specs.Ordering.{nat_cmp, ordering_then, is_gt}
use Rattle.module_timers.specs.declared.dues.Due.{Due}

-- as a pair of numbers
abbrev pub coded_due : Coded Due
coded_due = code_by (ℕ × ℕ) (coded× coded_ℕ coded_ℕ) (λ d. (d.deadline, d.timer))
    (λ p. record { deadline = p.0; timer = p.1 }) (λ _. refl)

-- by deadline, and then by number
abbrev pub due_cmp : Due → Due → Ordering
due_cmp a b = ordering_then (nat_cmp a.deadline b.deadline) (nat_cmp a.timer b.timer)

-- the first of two, where the second may be missing
abbrev pub sooner : Due → Option Due → Due
sooner a None = a
sooner a (Some b) = cond (is_gt (due_cmp a b)) b a

-- the first of all
abbrev pub soonest : List Due → Option Due
soonest [] = None
soonest (due ∷ dues) = Some (sooner due (soonest dues))
