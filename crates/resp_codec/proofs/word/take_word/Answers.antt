use Rattle.resp_codec.proofs.Words.{JudgesWord-open, JudgesWord-missing, JudgesWord-whole}
use Rattle.resp_codec.proofs.word.take_word.Goals as goal

pub returns-in-Open : goal.returns-in-Open
returns-in-Open c =
    let found = rw c.split_at.ensures.back at c.in-Open.ensures in
    JudgesWord-open c.args.bytes.now c.args.start c.args.size c.requires.small c.requires.parts found

pub returns-in-Missing : goal.returns-in-Missing
returns-in-Missing c =
    let found = rw c.split_at.ensures.back at c.in-Missing.ensures in
    JudgesWord-missing c.args.bytes.now c.args.start c.args.size c.in-Missing.place c.requires.within c.requires.small c.requires.parts found

pub returns-in-There : goal.returns-in-There
returns-in-There c =
    let found = rw c.split_at.ensures.back at c.in-There.ensures in
    JudgesWord-whole c.args.bytes.now c.args.start c.args.size c.requires.within c.requires.small c.requires.parts found
