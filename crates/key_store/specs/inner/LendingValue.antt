-- What becomes of an entry where its value is lent.
use Rattle.std.specs.Borrow.{Lends, MutBor, Fml, RattleType}
use Rattle.core_types.specs.contracts.value.Value.{the_row as value_row}
use Rattle.key_store.specs.contracts.stored.Stored.{the_row as stored_row}

-- the entry ends with the value that was left, and keeps its deadline
abbrev pub LendsValue : (N : RattleType) → MutBor ((stored_row N).Denot)
    → MutBor ((value_row N).Denot) → Fml
LendsValue N stored lent =
    Lends (stored_row N) (value_row N) stored lent (λ left. record stored.now { value = left })
