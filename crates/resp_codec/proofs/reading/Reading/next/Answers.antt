use Rattle.std.proofs.Common.{◌≡◌}
use Rattle.resp_codec.proofs.Passing.{SkipsOnly-join, Takes-join, Waits-join, Refuses-join}
use Rattle.resp_codec.proofs.reading.Reading.next.Goals as goal

pub loop-words-preserved : goal.loop-words-preserved
loop-words-preserved c =
    let step = rw c.in-Onward.is at c.in_ok-step.ensures.ok in
    SkipsOnly-join _ _ _ c.loop-words.invariant step.0

pub returns-in-Took-clause-request : goal.returns-in-Took-clause-request
returns-in-Took-clause-request c words e =
    let step = rw c.in-Took.is at c.in_ok-step.ensures.ok in
    let same : c.in-Took.words ≡ words = cc e in
    rw (← same) (Takes-join _ _ _ _ c.loop-words.invariant step)

pub returns-in-Wait-clause-more : goal.returns-in-Wait-clause-more
returns-in-Wait-clause-more c e =
    let step = rw c.in-Wait.is at c.in_ok-step.ensures.ok in
    Waits-join _ _ _ c.loop-words.invariant step

pub returns-in-Bad-clause-bad : goal.returns-in-Bad-clause-bad
returns-in-Bad-clause-bad c kind offset e =
    let step = rw c.in-Bad.is at c.in_ok-step.ensures.ok in
    let same : c.in-Bad.kind ≡ kind = cc e in
    let there : c.in-Bad.offset ≡ offset = cc e in
    rw (← same, ← there) (Refuses-join _ _ _ _ _ c.loop-words.invariant step)
