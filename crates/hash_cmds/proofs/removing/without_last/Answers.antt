-- Serves the clause of without_last.
use Rattle.std.proofs.Common.{sym, ◌∙◌}
use Rattle.hash_cmds.proofs.Leaving.{first_left}
use Rattle.hash_cmds.proofs.removing.without_last.Goals as goal

pub returns : goal.returns
returns c first second e =
    first_left c.pop.new.self c.pop.result first second (sym e ∙ c.pop.ensures.items) (λ f. sym e ∙ c.pop.ensures.none f)
