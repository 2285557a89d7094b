-- The keys in byte order, each with its value.
use Rattle.std.specs.Prelude.{ℕ, List, map}
use Rattle.std.specs.declared.ops.Bound.{Bound}
use Rattle.std.specs.BTreeMap.Range.{is_from_start}
use Rattle.std.specs.Cmp.Lexicographic.{slice_cmp}
use Rattle.std.specs.FinMap as finite
use Rattle.std.specs.List.{filter}
use Rattle.std.specs.Ordering.{nat_cmp}
use Rattle.core_types.specs.declared.value.Value.{Value}
use Rattle.core_types.specs.Keys.{KeysOf}

abbrev pub listed : {N : Type 0} → KeysOf N → List (List ℕ × Value N)
listed keys = map (λ e. (e.0, e.1.value)) (finite.entries keys)

-- those of them whose name is not before a name, or is after it where it is excluded; all of them,
-- where there is no name
abbrev pub listed_from : {N : Type 0} → KeysOf N → Bound (List ℕ) → List (List ℕ × Value N)
listed_from keys start = filter (λ e. is_from_start (slice_cmp nat_cmp) start e.0) (listed keys)
