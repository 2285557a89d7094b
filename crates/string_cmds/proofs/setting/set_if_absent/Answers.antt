-- Serves the clause of set_if_absent.
use Rattle.string_cmds.proofs.setting.set_if_absent.Goals as goal

pub returns-else-there : goal.returns-else-there
returns-else-there c = rw c.if-there.false c.sets.ensures
