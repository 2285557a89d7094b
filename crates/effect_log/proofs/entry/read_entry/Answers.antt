use Rattle.effect_log.proofs.Entries.{IsEntry-request}
use Rattle.effect_log.proofs.entry.read_entry.Goals as goal

pub returns-in-Request : goal.returns-in-Request
returns-in-Request c =
    let front = rw c.in-Request.is at c.in_ok-words.ensures.front in
    IsEntry-request c.args.bytes.now c.in-Request.words c.in-Request.size c.entry_of.result front c.entry_of.ensures
