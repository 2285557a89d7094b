-- Serves clause left of HashBody::remove_all.
use Rattle.std.proofs.Common.{◌≡◌, ◌||◌, List, ℕ}
use Rattle.core_types.specs.inner.Removals.{is_among, set_names}
use Rattle.core_types.proofs.field_map.name_set.Given as goal

-- the names in the set and those that are left are all of them
abbrev pub invariant-loop-name : goal.invariant-loop-name
invariant-loop-name l =
    (name : List ℕ) → (is_among (set_names l.set.keys) name || is_among l.name-iterator name)
    ≡ is_among l.fn.names name
