-- Serves clause does of run_fresh.
use Rattle.std.proofs.Common.{List, Some, None, subst}
use Rattle.core_types.specs.Done.{Does}
use Rattle.core_types.specs.declared.field.Field.{Field}
use Rattle.hash_cmds.specs.Rows.{row}
use Rattle.hash_cmds.proofs.Absent.{absent_does, row_fresh}
use Rattle.hash_cmds.proofs.running.run_fresh.Goals as goal

pub returns : goal.returns
returns c =
    let words = c.args.words.now in
    let made = c.in_ok-outcome.outcome in
    record {
      does = absent_does made c.put_where_changed.result c.run_on.new.old (row c.args.cmd None words) (row_fresh c.args.cmd words)
          (subst (λ (old : List Field). Does made (Some old) (Some c.run_on.new.old) (row c.args.cmd (Some old) words)) c.in_ok-fresh.ensures.empty c.in_ok-outcome.ensures.does)
          c.put_where_changed.ensures.same c.put_where_changed.ensures.put;
    }
