-- Serves the clause of builtin_effects_stay.
use Rattle.module_laws.specs.Rows.{replayed_beside}
use Rattle.module_laws.proofs.laws.builtin_effects_stay.Goals as goal

pub returns : goal.returns
returns c = λ builtins meaning faithful each effects keys made makes. replayed_beside builtins faithful meaning each effects keys made makes
