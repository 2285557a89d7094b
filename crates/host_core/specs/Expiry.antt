-- The removal of the keys that are due.
use Rattle.std.specs.Prelude.{ℕ, zero, suc, List, [], ◌∷◌, Option, Some, None}
use Rattle.core_types.specs.Keys.{Keys, Native, key_count}
use Rattle.core_types.specs.declared.effect.Effect.{Effect}
use Rattle.key_cmds.specs.Deadlines.{Expired, first_expired}

-- the keys that are left, and the changes, one key after the other
pub record Expiry : Type 0 where
  pub keys : Keys
  pub effects : List Effect

abbrev pub after_one : Keys → Option (Expired Native) → (Keys → Expiry) → Expiry
after_one keys None more = record { keys = keys; effects = [] }
after_one keys (Some expired) more =
    record {
      keys = (more expired.keys).keys;
      effects =
          expired.effect ∷ (more expired.keys).effects;
    }

-- as long as a key is due, and up to a number of keys, the one that is due first is removed
abbrev pub expired_up_to : ℕ → ℕ → Keys → Expiry
expired_up_to zero moment keys = record { keys = keys; effects = [] }
expired_up_to (suc count) moment keys =
    after_one keys (first_expired keys moment) (expired_up_to count moment)

-- no key is due any longer
abbrev pub expired_at : ℕ → Keys → Expiry
expired_at moment keys = expired_up_to (key_count keys) moment keys
