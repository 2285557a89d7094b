-- Serves the clauses of `put_all`.
use Rattle.std.proofs.Common.{◌∙◌, arith}
use Rattle.server_shell.proofs.Sending.{sent_more}
use Rattle.server_shell.proofs.handing.put_all.Goals as goal

pub loop-done-preserved : goal.loop-done-preserved
loop-done-preserved g c = record {
  within = omega (arith, c.in_ok-done.ensures.bound, c.split_at.ensures.back_len);
  sent = sent_more _ _ _ _ _ _ _ c.split_at.ensures.back c.loop-done.invariant.sent c.in_ok-done.ensures.bytes;
  kept = c.in_ok-done.ensures.cause.kept ∙ c.loop-done.invariant.kept;
}
