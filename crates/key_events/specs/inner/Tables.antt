-- The names of clients in a tree.
use Rattle.std.specs.Prelude.{◌≡◌, ℕ, Some}
use Rattle.std.specs.Option.{MatchOption}
use Rattle.std.specs.Ordering.{nat_cmp}
use Rattle.std.specs.BTreeMap.{BTreeMap, Updates, get}
use Rattle.key_events.specs.Rolls.{NameList}

-- the names of a client are changed, where it has some, and nothing else
abbrev pub Renames : BTreeMap ℕ NameList → BTreeMap ℕ NameList → ℕ → (NameList → NameList) → Type 0
Renames old new client change =
    MatchOption (get nat_cmp old client) (new.entries ≡ old.entries)
    (λ names. Updates nat_cmp old new client (Some (change names)))
