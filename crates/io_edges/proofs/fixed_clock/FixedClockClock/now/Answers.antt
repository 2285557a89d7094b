use Rattle.std.proofs.Common.{Some, ap, arith, List, ℕ}
use Rattle.io_edges.proofs.Readings.{gives_next}
use Rattle.io_edges.proofs.fixed_clock.FixedClockClock.now.Goals as goal

pub returns-clause-given : goal.returns-clause-given
returns-clause-given c =
    let clock = c.args.self.now in
    rw (c.next.ensures.moved, c.next.ensures.reading) (ap (λ (given : List ℕ). Some given) (gives_next clock.readings clock.calls (omega (arith, c.next.ensures.few))))
