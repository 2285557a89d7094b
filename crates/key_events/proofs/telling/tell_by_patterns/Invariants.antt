-- Serves the clause on what the client was told by the patterns so far.
use Rattle.std.proofs.Common.{◌≡◌, ◌++◌, take}
use Rattle.key_events.specs.Messages.{by_patterns}
use Rattle.key_events.proofs.telling.tell_by_patterns.Given as goal

abbrev pub invariant-loop-pattern : goal.invariant-loop-pattern
invariant-loop-pattern l = l.outs
    ≡ l.fn.outs ++ by_patterns l.channel l.payload (l.client, take l.pattern-index l.patterns)
