-- The index of the deadlines: the keys that have one, by moment and then by key.
use Rattle.std.specs.Prelude.{◌≡◌, ◌==◌, ℕ, Bool, true, false, cond, List, Option, None, Some, refl}
use Rattle.std.specs.Option.{option_map_or}
use Rattle.std.specs.Coded.{Coded, code_by, coded×, coded_ℕ}
use Rattle.std.specs.declared.cmp.Ordering.{Ordering}
use Rattle.std.specs.Ordering.{nat_cmp, ordering_then, is_gt}
use Rattle.std.specs.Cmp.Lexicographic.{slice_cmp}
use Rattle.std.specs.FinSet as set
use Rattle.std.specs.FinSet.{FinSet}
use Rattle.core_types.specs.Keys.{KeysOf, deadline_at}
use Rattle.key_store.specs.declared.due.Due as declared
use Rattle.key_store.specs.Codes.{bytes_code}
use Rattle.key_store.specs.NextDue.{Due}

-- by moment, and then by key in byte order
abbrev pub due_cmp : Due → Due → Ordering
due_cmp a b = ordering_then (nat_cmp a.moment b.moment) (slice_cmp nat_cmp a.key b.key)

-- what a due is, without where its key lies in memory
abbrev pub due_of : declared.Due → Due
due_of due = record { key = due.key; moment = due.moment }

-- as a pair
abbrev pub due_code : Coded Due
due_code =
    code_by (List ℕ × ℕ) (coded× bytes_code coded_ℕ)
    (λ d. (d.key, d.moment)) (λ p. record { key = p.0; moment = p.1 }) (λ _. refl)

-- a key is entered at its deadline, where it has one
abbrev pub entered : FinSet due_cmp → List ℕ → Option ℕ → FinSet due_cmp
entered dues key None = dues
entered dues key (Some moment) = set.insert dues (record { key = key; moment = moment })

-- and taken out
abbrev pub taken_out : FinSet due_cmp → List ℕ → Option ℕ → FinSet due_cmp
taken_out dues key None = dues
taken_out dues key (Some moment) = set.remove dues (record { key = key; moment = moment })

-- it is in the set and none in the set comes before it, or the set is empty
abbrev pub IsEarliest : FinSet due_cmp → Option Due → Type 0
IsEarliest dues None = (d : Due) → set.contains dues d ≡ false
IsEarliest dues (Some due) =
    (set.contains dues due ≡ true)
    × ((d : Due) → set.contains dues d ≡ true → is_gt (due_cmp due d) ≡ false)

-- whether a deadline is at this moment
abbrev pub is_at_moment : Option ℕ → ℕ → Bool
is_at_moment deadline moment = option_map_or (λ d. d == moment) deadline false

-- one deadline where another is not the same
abbrev pub unless_same : Option ℕ → Option ℕ → Option ℕ
unless_same (Some moment) (Some other) = cond (moment == other) None (Some moment)
unless_same deadline other = deadline

-- the keys that are entered are those that have a deadline, each at its own
abbrev pub Indexes : FinSet due_cmp → (List ℕ → Option ℕ) → Type 0
Indexes dues deadline =
    (due : Due) → set.contains dues due ≡ is_at_moment (deadline due.key) due.moment

abbrev pub IsIndexed : {N : Type 0} → FinSet due_cmp → KeysOf N → Type 0
IsIndexed dues keys = Indexes dues (deadline_at keys)
