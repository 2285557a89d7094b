-- Serves the invariant after a name was given, and after one was refused for want of memory.
use Rattle.std.proofs.Common.{◌≡◌, true, false, Result, Ok, Err, is_err, OnOk, OnErr, sym, ap, ◌∙◌}
use Rattle.std.proofs.lemmas.Bool.{true≢false, false≢true}
use Rattle.key_events.specs.Rolls.{RollMap, has_name, names_at}
use Rattle.key_events.specs.inner.Lines.{LinesMap, without_place}
use Rattle.key_events.proofs.Agreeing.{moved, agree_with, agree_back}
use Rattle.key_events.proofs.roll.Roll.add.Goals as goal

on_ok : {T E P : Type 0} (r : Result T E) → is_err r ≡ false → OnOk r P → P
on_ok (Ok x) is p = p
on_ok (Err e) is p = absurd (true≢false is)

on_err : {T E P : Type 0} (r : Result T E) → is_err r ≡ true → OnErr r P → P
on_err (Ok x) is p = absurd (false≢true is)
on_err (Err e) is p = p

pub invariant_of-self-then-is_err : goal.invariant_of-self-then-is_err
invariant_of-self-then-is_err c =
    let now = c.self.inside in
    let name = c.args.name.now in
    let client = c.args.client in
    let new : has_name name (names_at now.table client) ≡ false =
    ap (λ (m : RollMap). has_name name (names_at m client)) c.self.view_is ∙ c.requires in
    let same : c.add-entered.new.self ≡ now.table =
    on_err c.add-entered.result
    (sym c.is_err.ensures.value ∙ c.if-is_err.true) c.add-entered.ensures.err in
    moved now.table c.add-entered.new.self _ c.remove.new.self same
    (c.remove.ensures.removed
    ∙ ap (λ (m : LinesMap). without_place m name client) c.in_ok-insert.ensures.ok)
    (agree_back now.table now.lines client name new c.self.invariant)

pub invariant_of-self-else-is_err : goal.invariant_of-self-else-is_err
invariant_of-self-else-is_err c =
    let now = c.self.inside in
    moved _ c.add-entered.new.self _ c.insert.new.self
    (on_ok c.add-entered.result
    (sym c.is_err.ensures.value ∙ c.if-is_err.false) c.add-entered.ensures.ok)
    c.in_ok-insert.ensures.ok
    (agree_with now.table now.lines c.args.client c.args.name.now c.self.invariant)
