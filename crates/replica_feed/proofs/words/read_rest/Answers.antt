-- Serves the clause of read_rest.
use Rattle.std.proofs.Common.{Bool, List, ℕ, Ok, subst, ◌∙◌}
use Rattle.replica_feed.specs.Words.{IsUnitText}
use Rattle.replica_feed.specs.inner.Texts.{Breaks, IsOther, IsRead}
use Rattle.replica_feed.proofs.Reading.{another_read, breaks_after, less_left, one_unit, several_units, torn_after}
use Rattle.replica_feed.proofs.words.read_rest.Goals as goal

pub returns-in-Bad : goal.returns-in-Bad
returns-in-Bad c =
    let read = c.loop-first.invariant.0 in
    subst (λ (b : List ℕ). Breaks b c.in-Bad.why) c.loop-first.invariant.1
    (breaks_after c.loop-first.reader read.units c.in-Bad.field-0 c.in-Bad.why read.each (read.whole, read.place)
    (c.in_ok-next.ensures.bad c.in-Bad.field-0 c.in-Bad.why (λ i. Ok (c.in-Bad.is i))).0)

pub returns-in-End : goal.returns-in-End
returns-in-End c =
    let log = c.loop-first.reader in
    let read = subst (λ (alone : Bool). IsRead log c.loop-first.first alone) c.if-alone.true c.loop-first.invariant.0 in
    subst (λ (b : List ℕ). IsUnitText b c.loop-first.first) c.loop-first.invariant.1
    (one_unit log c.loop-first.first read (c.in_ok-next.ensures.end (λ i. Ok (c.in-End.is i))).0)

pub returns-in-End-2 : goal.returns-in-End-2
returns-in-End-2 c =
    let log = c.loop-first.reader in
    let read = subst (λ (alone : Bool). IsRead log c.loop-first.first alone) c.if-alone.false c.loop-first.invariant.0 in
    subst IsOther c.loop-first.invariant.1
    (several_units log c.loop-first.first read (c.in_ok-next.ensures.end (λ i. Ok (c.in-End.is i))).0)

pub returns-in-Tail : goal.returns-in-Tail
returns-in-Tail c =
    let read = c.loop-first.invariant.0 in
    subst IsOther c.loop-first.invariant.1
    (torn_after c.loop-first.reader read.units read.each (read.whole, read.place) (c.in_ok-next.ensures.tail c.in-Tail.field-0 (λ i. Ok (c.in-Tail.is i))).0.1)

pub loop-first-smaller-in-Unit : goal.loop-first-smaller-in-Unit
loop-first-smaller-in-Unit c =
    less_left c.loop-first.reader c.next.new.self c.loop-first.first c.in-Unit.field-0 c.loop-first.alone c.loop-first.invariant.0
    (c.in_ok-next.ensures.unit c.in-Unit.field-0 (λ i. Ok (c.in-Unit.is i)))

pub loop-first-preserved-in-Unit : goal.loop-first-preserved-in-Unit
loop-first-preserved-in-Unit c =
    let takes = c.in_ok-next.ensures.unit c.in-Unit.field-0 (λ i. Ok (c.in-Unit.is i)) in (
      another_read c.loop-first.reader c.next.new.self c.loop-first.first c.in-Unit.field-0 c.loop-first.alone c.loop-first.invariant.0 takes,
      takes.bytes ∙ c.loop-first.invariant.1,
    )
