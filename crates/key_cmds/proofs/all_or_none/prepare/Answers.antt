-- Serves the clauses of prepare.
use Rattle.std.proofs.Common.{◌≡◌, List, subst}
use Rattle.key_cmds.specs.SeveralKeys.{Pair}
use Rattle.key_cmds.proofs.AllOrNone.{AreLookedAtBut, none_looked_at, one_looked_at}
use Rattle.key_cmds.proofs.all_or_none.prepare.Goals as goal

pub loop-key-init : goal.loop-key-init
loop-key-init g c =
    let all : c.into_iter-key-iterator.result ≡ c.args.pairs = cc in
    none_looked_at c.into_iter-key-iterator.result c.args.pairs c.args.begun.now c.args.keys.now
    all c.requires.none

pub loop-key-preserved : goal.loop-key-preserved
loop-key-preserved g c =
    let pair : Pair = record { key = c.in-Some.key.now; value = c.in-Some.text.now } in
    let before = c.args.keys.now in
    let keys = c.loop-key.keys in
    let left =
    subst (λ (ps : List Pair). AreLookedAtBut ps c.args.pairs c.loop-key.begun before keys)
    c.in-Some.ensures.steps c.loop-key.invariant in
    one_looked_at pair c.next.new.self c.args.pairs c.loop-key.begun c.look_at.new.self
    before keys c.look_at.new.keys left
    (record { gathers = c.in_ok-look_at.ensures.begun; puts = c.in_ok-look_at.ensures.keys })
