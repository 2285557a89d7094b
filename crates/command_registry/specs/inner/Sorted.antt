-- Commands in the order of their names.
use Rattle.std.specs.Prelude.{◌≤◌, ℕ, List, map, length}
use Rattle.std.specs.Ordering.{nat_cmp}
use Rattle.std.specs.Cmp.Lexicographic.{slice_cmp}
use Rattle.std.specs.List.Sorted.{IsStrictlySortedBy}
use Rattle.command_registry.specs.Registry.{Command, name_of, most_commands}

-- each with its name in upper case
abbrev pub named : List Command → List (List ℕ × Command)
named commands = map (λ c. (name_of c, c)) commands

-- their names rise, and they are not too many
pub record IsSorted (commands : List Command) : Type 0 where
  pub rising : IsStrictlySortedBy (slice_cmp nat_cmp) (map name_of commands)
  pub few : length commands ≤ most_commands
