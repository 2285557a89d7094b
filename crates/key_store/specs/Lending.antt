-- What becomes of the keys where the value of one is lent.
use Rattle.std.specs.Prelude.{◌≡◌, ℕ, List, Option}
use Rattle.std.specs.Option.{OnSome}
use Rattle.std.specs.Borrow.{LendsSo, MutBor, Fml, RattleType}
use Rattle.core_types.specs.Keys.{with_changed}
use Rattle.core_types.specs.contracts.value.Value.{the_row as value_row}
use Rattle.key_store.specs.contracts.store.KeyStore.{the_row as store_row}

-- the key ends with the value that was left, and keeps its deadline; where the key is not there,
-- nothing changes
abbrev pub LendsValueOf : (N : RattleType) → MutBor ((store_row N).Denot) → List ℕ
    → Option (MutBor ((value_row N).Denot)) → Fml
LendsValueOf N store key lent =
    LendsSo (store_row N) (value_row N) store lent
    (λ end left. OnSome lent (end ≡ with_changed store.now key left)) (λ end. end ≡ store.now)
