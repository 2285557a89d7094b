-- Serves the clause of read_text.
use Rattle.std.proofs.Common.{List, [], ℕ, Ok, subst, ◌∙◌, IfOk}
use Rattle.replica_feed.specs.inner.Texts.{Breaks, IsOther, IsText}
use Rattle.replica_feed.proofs.Reading.{breaks_after, first_read, stood_first, torn_after}
use Rattle.replica_feed.proofs.words.read_text.Goals as goal

pub read_rest-requires : goal.read_rest-requires
read_rest-requires c =
    record {
      one = first_read c.new-reader.result c.next.new.self c.in-Unit.effects c.new-reader.ensures.place
          (c.in_ok-effects.ensures.unit c.in-Unit.effects (λ i. Ok (c.in-Unit.is i)));
    }

pub returns-in-Unit : goal.returns-in-Unit
returns-in-Unit c =
    let takes = c.in_ok-effects.ensures.unit c.in-Unit.effects (λ i. Ok (c.in-Unit.is i)) in
    subst (λ (b : List ℕ). IfOk c.read_rest.result (IsText b)) (takes.bytes ∙ c.new-reader.ensures.bytes) c.read_rest.ensures

pub returns-in-Tail : goal.returns-in-Tail
returns-in-Tail c =
    let log = c.new-reader.result in
    subst IsOther c.new-reader.ensures.bytes
    (torn_after log [] tt (stood_first log c.new-reader.ensures.place) (c.in_ok-effects.ensures.tail c.in-Tail.field-0 (λ i. Ok (c.in-Tail.is i))).0.1)

pub returns : goal.returns
returns c =
    let log = c.new-reader.result in
    subst (λ (b : List ℕ). Breaks b c.in-Bad.why) c.new-reader.ensures.bytes
    (breaks_after log [] c.in-Bad.field-0 c.in-Bad.why tt (stood_first log c.new-reader.ensures.place)
    (c.in_ok-effects.ensures.bad c.in-Bad.field-0 c.in-Bad.why (λ i. Ok (c.in-Bad.is i))).0)
