-- What a call makes of the keys and of the list of what left them.
use Rattle.std.specs.Prelude.{◌≡◌, List, ◌++◌, Option, Some, None}
use Rattle.core_types.specs.Keys.{KeysOf}
use Rattle.key_cmds.specs.declared.deadlines.ExpiredKey.{ExpiredKey}
use Rattle.key_cmds.specs.Deadlines.{Expired}

-- the keys, and the list of the modules' values that left them
pub record KeysAndLeft (N : Type 0) : Type 0 where
  pub keys : KeysOf N
  pub left : List N

-- what is given of the removal of a key that is due, beside the keys and what left them
abbrev pub expired_told : {N : Type 0} → Expired N → ExpiredKey
expired_told removal = record { effect = removal.effect; note = removal.note }

module _ {N : Type 0} where
  -- one key is removed, where there is one
  abbrev pub HasExpired : Option (Expired N) → KeysAndLeft N → KeysAndLeft N → Type 0
  HasExpired None before after = after ≡ before
  HasExpired (Some removal) before after =
      after ≡ record { keys = removal.keys; left = before.left ++ removal.left }
