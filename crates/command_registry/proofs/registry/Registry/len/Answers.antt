-- Serves the clause on how many commands are known.
use Rattle.std.proofs.Common.{sym, ap, ◌∙◌}
use Rattle.std.specs.FinMap as map
use Rattle.command_registry.proofs.Placed.{len-named}
use Rattle.command_registry.proofs.registry.Registry.len.Goals as goal

pub returns : goal.returns
returns c = record { length = c.len.ensures ∙ c.self.inside.commands.ok.0 ∙ sym (len-named c.self.inside.commands.items c.self.invariant) ∙ ap map.len c.self.view_is }
