use Rattle.std.proofs.Common.{◌≡◌, ◌+◌, ◌≤◌, ◌++◌, ◌∙◌, length, length-append, [], ap, subst, arith, inl}
use Rattle.std.specs.List.{flat_map}
use Rattle.resp_codec.specs.Marks.{header}
use Rattle.resp_codec.specs.Spelling.{bulk}
use Rattle.resp_codec.specs.Stream.{Waits}
use Rattle.resp_codec.specs.inner.Reading.{seen}
use Rattle.resp_codec.proofs.Passing.{Waits-here}
use Rattle.resp_codec.proofs.ReaderSteps.{IsBegun-words, bad_word_end, unfinished_word, found_behind, open_behind}
use Rattle.resp_codec.proofs.reading.Reading.read_word.Goals as goal

pub returns-then-tail_len-size-clause-ok : goal.returns-then-tail_len-size-clause-ok
returns-then-tail_len-size-clause-ok c =
    let s = c.gather.new.self in
    let stage = c.gather.ensures.stage ∙ c.requires in
    let due = rw stage at s.due in
    let none : s.input ≡ [] = c.in_ok-gather.ensures.all (omega (arith, c.if-tail_len-size.true, c.tail_len.ensures.length)) in
    let short : length (s.draft.tail ++ s.input) ≤ c.args.size = omega (arith, length-append s.draft.tail s.input, ap length none, due.2) in
    subst (λ t. Waits t (seen s)) c.gather.ensures.seen
    (Waits-here (seen s) (rw stage (unfinished_word (header 42 s.count ++ flat_map bulk s.draft.words) (s.draft.tail ++ s.input) c.args.size (IsBegun-words s.count s.draft.words due.0) due.1 (inl short))))

pub returns-in-Open-clause-ok : goal.returns-in-Open-clause-ok
returns-in-Open-clause-ok c =
    let s = c.gather.new.self in
    let stage = c.gather.ensures.stage ∙ c.requires in
    let due = rw stage at s.due in
    let all : length s.draft.tail ≡ c.args.size = omega (arith, due.2, c.if-tail_len-size.false, c.tail_len.ensures.length) in
    let wanted = open_behind s.draft.tail s.input c.args.size all c.in-Open.ensures.found in
    subst (λ t. Waits t (seen s)) c.gather.ensures.seen
    (Waits-here (seen s) (rw stage (unfinished_word (header 42 s.count ++ flat_map bulk s.draft.words) (s.draft.tail ++ s.input) c.args.size (IsBegun-words s.count s.draft.words due.0) due.1 wanted)))

pub refuse-requires-clause-bad : goal.refuse-requires-clause-bad
refuse-requires-clause-bad c =
    let s = c.gather.new.self in
    let stage = c.gather.ensures.stage ∙ c.requires in
    let due = rw stage at s.due in
    let read_is = rw stage at s.read_is in
    let all : length s.draft.tail ≡ c.args.size = omega (arith, due.2, c.if-tail_len-size.false, c.tail_len.ensures.length) in
    let missing = found_behind s.draft.tail s.input c.args.size c.in-Missing.place all c.in-Missing.ensures.found in
    rw (stage, read_is) (bad_word_end (header 42 s.count ++ flat_map bulk s.draft.words) (s.draft.tail ++ s.input) c.args.size (c.args.size + c.in-Missing.place) (IsBegun-words s.count s.draft.words due.0) due.1 missing)
