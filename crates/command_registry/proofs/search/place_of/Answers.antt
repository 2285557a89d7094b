-- Serves the clause on what the search finds.
use Rattle.std.proofs.Common.{rules}
use Rattle.std.specs.Ordering.{nat_cmp}
use Rattle.std.specs.Cmp.Lexicographic.{slice_cmp}
use Rattle.std.proofs.lemmas.Fn.{always_returns_same}
use Rattle.byte_text.specs.Name.{upper_name}
use Rattle.command_registry.specs.Registry.{name_of}
use Rattle.command_registry.proofs.search.place_of.Goals as goal

pub returns-clause-found : goal.returns-clause-found
returns-clause-found c =
    c.binary_search_by.ensures.position (λ command. slice_cmp nat_cmp (name_of command) (upper_name c.args.name.now)) (always_returns_same _ _ _ (λ a r f called. search rules))
