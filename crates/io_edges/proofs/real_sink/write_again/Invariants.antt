-- Serves the clause `bytes` of `write_again`: a failed write appends nothing.
use Rattle.std.specs.Io.KnownBytes.{Keeps}
use Rattle.io_edges.proofs.real_sink.write_again.Given as goal

abbrev pub invariant-loop : goal.invariant-loop
invariant-loop g l = Keeps (g.W.Write.contents l.initial.writer) (g.W.Write.contents l.writer)
