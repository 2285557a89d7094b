-- Serves clause ok of lay_over.
use Rattle.std.proofs.Common.{◌∙◌}
use Rattle.string_cmds.proofs.Laying.{laid_by_steps}
use Rattle.string_cmds.proofs.writing.lay_over.Goals as goal

pub returns-clause-ok : goal.returns-clause-ok
returns-clause-ok c =
    c.overwrite.ensures.written ∙ laid_by_steps c.args.value.now c.args.start c.args.piece.now c.grow.new.self c.in_ok-grow.ensures.ok
