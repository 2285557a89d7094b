-- The tickets that wait on keys, and each step on them.
use Rattle.std.specs.Prelude.{ℕ, ◌&&◌, nat_lt, List, Option}
use Rattle.std.specs.Option.{option_map}
use Rattle.std.specs.List.{find}
use Rattle.std.specs.Ordering.{nat_cmp}
use Rattle.std.specs.Str.{bytes_eq}
use Rattle.std.specs.FinMap as map
use Rattle.std.specs.Coded.{Coded, coded_ℕ, coded_list}

-- the tickets that wait, by number, each with its key
abbrev pub Waiting : Type 0
Waiting = map.FinMap nat_cmp (List ℕ)

abbrev pub coded_waiting : Coded Waiting
coded_waiting = map.code coded_ℕ (coded_list coded_ℕ)

abbrev pub nobody_waits : Waiting
nobody_waits = map.empty

-- the key that a ticket waits on
abbrev pub key_at : Waiting → ℕ → Option (List ℕ)
key_at waiting ticket = map.get waiting ticket

-- the first ticket, in order of number, that is above this number and waits on the key
abbrev pub first_at : Waiting → List ℕ → ℕ → Option ℕ
first_at waiting key above =
    option_map (λ e. e.0) (find (λ e. nat_lt above e.0 && bytes_eq e.1 key) (map.entries waiting))

-- with one more that waits
abbrev pub with_waiter : Waiting → ℕ → List ℕ → Waiting
with_waiter waiting ticket key = map.insert waiting ticket key

-- with one that waits no more
abbrev pub without : Waiting → ℕ → Waiting
without waiting ticket = map.remove waiting ticket
