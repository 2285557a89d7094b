-- The commands that are known.
use Rattle.std.specs.Prelude.{◌≡◌, ◌<◌, ℕ, List, Option, None, Result, Ok, Err, IsSome}
use Rattle.std.specs.Ordering.{nat_cmp}
use Rattle.std.specs.Cmp.Lexicographic.{slice_cmp}
use Rattle.std.specs.Coded.{Coded, coded×, coded_ℕ, coded_list}
use Rattle.std.specs.FinMap as map
use Rattle.byte_text.specs.Name.{upper_name}
use Rattle.core_types.specs.declared.command_spec.CommandSpec.{CommandSpec}
use Rattle.core_types.specs.contracts.command_spec.CommandSpec as spec
use Rattle.command_registry.specs.declared.owner.Owner.{Owner}
use Rattle.command_registry.specs.declared.register_fault.RegisterFault.{RegisterFault}
use Rattle.command_registry.specs.declared.register_fault.RegisterFault.TheVariants.{Taken, TooMany, Memory}
use Rattle.command_registry.specs.contracts.owner.Owner as owner

-- what is known of a command, and whose it is
abbrev pub Command : Type 0
Command = CommandSpec × Owner

-- its name, in upper case
abbrev pub name_of : Command → List ℕ
name_of command = upper_name command.0.name.now

-- the commands by their names in upper case
abbrev pub Commands : Type 0
Commands = map.FinMap (slice_cmp nat_cmp) Command

abbrev pub coded_commands : Coded Commands
coded_commands = map.code (coded_list coded_ℕ) (coded× (spec.the_row).coded (owner.the_row).coded)

-- the most that can be known
abbrev pub most_commands : ℕ
most_commands = 1024

abbrev pub no_commands : Commands
no_commands = map.empty

-- the command of a name, whatever the case of its letters
abbrev pub command_named : Commands → List ℕ → Option Command
command_named commands name = map.get commands (upper_name name)

-- with one command more
abbrev pub with_command : Commands → CommandSpec → Owner → Commands
with_command commands spec owner = map.insert commands (upper_name spec.name.now) (spec, owner)

-- no command has the name, and there is room for one
abbrev pub CanAdd : Commands → List ℕ → Type 0
CanAdd commands name = (command_named commands name ≡ None) × (map.len commands < most_commands)

-- when a command is added, and when each fault comes
abbrev pub AddCause : Commands → List ℕ → Result (Unit {0}) RegisterFault → Type 0
AddCause commands name (Ok done) = CanAdd commands name
AddCause commands name (Err Taken) = IsSome (command_named commands name)
AddCause commands name (Err TooMany) = (command_named commands name ≡ None)
    × (map.len commands ≡ most_commands)
AddCause commands name (Err Memory) = CanAdd commands name
