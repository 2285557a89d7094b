-- What a registry knows of the built-in commands.
use Rattle.std.specs.Prelude.{◌≡◌, ⊤, ℕ, List, slice_get, Option, Some, None}
use Rattle.command_registry.specs.Registry.{Command, Commands, command_named}
use Rattle.command_registry.specs.declared.owner.Owner.{Owner}
use Rattle.command_registry.specs.declared.owner.Owner.TheVariants as owner
use Rattle.client_book.specs.Register.{Register}
use Rattle.host_core.specs.declared.builtin.Builtin.{Builtin}
use Rattle.host_core.specs.Builtins.{builtins, first_named}
use Rattle.host_core.specs.Core.{AreJoined}

-- a command is this built-in one, by its number
abbrev pub IsNumberOf : Owner → Builtin → Type 0
IsNumberOf (owner.Builtin number) cmd = slice_get builtins number ≡ Some cmd
IsNumberOf (owner.Module place) cmd = ⊥

-- what is known of a name is this command, or nothing where there is none
abbrev pub IsKnownAs : Option Command → Option Builtin → Type 0
IsKnownAs None None = ⊤
IsKnownAs (Some known) (Some cmd) = IsNumberOf known.1 cmd
IsKnownAs _ _ = ⊥

-- these commands are known, and no others
abbrev pub KnowsThese : List Builtin → Commands → Type 0
KnowsThese commands names =
    (name : List ℕ) → IsKnownAs (command_named names name) (first_named name commands)

unfoldable pub Knows : Commands → Type 0
Knows names = KnowsThese builtins names

-- what always holds of a core: its registry knows the built-in commands, and no client is there
-- whose number is above all that joined
pub record IsSound (names : Commands) (register : Register) : Type 0 where
  pub knows : Knows names
  pub joined : AreJoined register
