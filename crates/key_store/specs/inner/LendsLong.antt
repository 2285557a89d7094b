-- What becomes of the table where what a key has is lent.
use Rattle.std.specs.Prelude.{◌≡◌, ℕ, List, Option}
use Rattle.std.specs.Option.{OnSome}
use Rattle.std.specs.Borrow.{LendsSo, MutBor, Fml, RattleType}
use Rattle.core_types.specs.Keys.{with_entry}
use Rattle.key_store.specs.contracts.stored.Stored.{the_row as stored_row}
use Rattle.key_store.specs.contracts.long_table.LongTable.{the_row as table_row}

-- the table ends with what was left under the key, and as it was where the key is not there
abbrev pub LendsLong : (N : RattleType) → MutBor ((table_row N).Denot) → List ℕ
    → Option (MutBor ((stored_row N).Denot)) → Fml
LendsLong N table key lent =
    LendsSo (table_row N) (stored_row N) table lent
    (λ end left. OnSome lent (end ≡ with_entry table.now key left)) (λ end. end ≡ table.now)
