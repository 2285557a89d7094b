-- Where a part of the keys begins.
use Rattle.std.specs.Prelude.{◌≡◌, ℕ, true, List}
use Rattle.std.specs.declared.ops.Bound.{Bound}
use Rattle.std.specs.BTreeMap.Range.{is_from_start}
use Rattle.std.specs.Cmp.Lexicographic.{slice_cmp}
use Rattle.std.specs.FinMap as finite
use Rattle.std.specs.List.{filter}
use Rattle.std.specs.Ordering.{nat_cmp}
use Rattle.core_types.specs.Keys.{Entry, KeysOf}
use Rattle.key_store.specs.inner.Short.{is_short}

-- the entries from a name on, or after it
abbrev pub entries_from : {N : Type 0} → KeysOf N → Bound (List ℕ) → List (List ℕ × Entry N)
entries_from keys start =
    filter (λ e. is_from_start (slice_cmp nat_cmp) start e.0) (finite.entries keys)

-- the short names are the same from the one on as from the other
abbrev pub IsSameStart : Bound (List ℕ) → Bound (List ℕ) → Type 0
IsSameStart start other =
    (name : List ℕ) → is_short name ≡ true
    → is_from_start (slice_cmp nat_cmp) start name ≡ is_from_start (slice_cmp nat_cmp) other name
