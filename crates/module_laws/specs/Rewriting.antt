-- Commands that build a value again.
use Rattle.std.specs.Prelude.{◌≡◌, ◌<◌, Bool, true, false, List, [], ◌∷◌, length, slice_get, Option, Some, None}
use Rattle.std.specs.List.{AllByRecursion}
use Rattle.std.specs.Option.{option_and_then}
use Rattle.core_types.specs.CommandRow.{CommandRow}
use Rattle.core_types.specs.declared.effect.Effect.{Effect}
use Rattle.core_types.specs.Limits.{IsSmallEffect}
use Rattle.module_laws.specs.Meaning.{Meaning}
use Rattle.module_laws.specs.Named.{command_name, row_named}
use Rattle.module_laws.specs.Words.{Bytes, Saved}

-- an effect of the module's own on this key
pub record IsOwnEffect (meaning : Meaning) (key : Bytes) (effect : Effect) : Type 0 where
  pub row : CommandRow
  pub named : row_named (command_name effect.words) meaning.rows ≡ Some row
  pub writes : row.writes ≡ true
  pub keyed : slice_get effect.words row.key ≡ Some key
  pub small : IsSmallEffect effect

-- effects on one key, one after the other, as far as each makes something of what there is
abbrev pub after_all : Meaning → Option Saved → List Effect → Option (Option Saved)
after_all meaning old [] = Some old
after_all meaning old (effect ∷ effects) =
    option_and_then (λ made. after_all meaning made effects) (meaning.after old effect.words)

-- effects of the module's own on this key, at least one, that make the value of nothing
pub record Builds (meaning : Meaning) (key : Bytes) (items : Saved)
    (effects : List Effect) : Type 0 where
  pub some : 0 < length effects
  pub own : AllByRecursion (IsOwnEffect meaning key) effects
  pub built : after_all meaning None effects ≡ Some (Some items)

abbrev pub RebuildsWhere : Bool → Meaning → Bytes → Saved → List Effect → Type 0
RebuildsWhere true meaning key items effects = effects ≡ []
RebuildsWhere false meaning key items effects = Builds meaning key items effects

-- An empty value has no effects, and any other is built by them.
abbrev pub Rebuilds : Meaning → Bytes → Saved → List Effect → Type 0
Rebuilds meaning key items effects =
    RebuildsWhere (meaning.is_empty items) meaning key items effects
