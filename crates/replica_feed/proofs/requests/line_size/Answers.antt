-- Serves the clauses of line_size.
use Rattle.std.proofs.Common.{sym, ◌∙◌}
use Rattle.replica_feed.proofs.Lines.{up_to_first, all_of}
use Rattle.replica_feed.proofs.requests.line_size.Goals as goal

pub returns-in-Some-clause-line : goal.returns-in-Some-clause-line
returns-in-Some-clause-line c = (up_to_first c.args.bytes.now c.in-Some.end (sym c.first_lf.ensures ∙ c.in-Some.is)).1

pub returns-in-None-clause-line : goal.returns-in-None-clause-line
returns-in-None-clause-line c = all_of c.args.bytes.now (sym c.first_lf.ensures ∙ c.in-None.is)
