use Rattle.std.proofs.Common.{◌∙◌, ◌+◌, ℕ, Option, length, unwrap_or, subst, sym, ap}
use Rattle.zip_lists.specs.BadPlace.{IsFirstBad}
use Rattle.zip_lists.proofs.Walks.{item_open, item_unknown, walked-on}
use Rattle.zip_lists.proofs.walk.Walk.read_entry.Goals as goal

pub returns-in-Open : goal.returns-in-Open
returns-in-Open c =
    let bytes = c.args.bytes.now in
    let begun = rw (c.in-Open.is, c.split_at.ensures.back) at c.read_item.ensures in
    let place = c.unwrap_or.ensures ∙ ap (λ (w : Option ℕ). unwrap_or w (length bytes))
    c.first_wrong-wrong.ensures in
    subst (λ (k : ℕ). IsFirstBad bytes k) (sym place)
    (item_open bytes c.args.self.now c.args.told c.args.size c.requires.walked c.requires.total
    c.requires.tells begun)

pub returns-in-Unknown : goal.returns-in-Unknown
returns-in-Unknown c =
    let bytes = c.args.bytes.now in
    let front = rw (c.in-Unknown.is, c.split_at.ensures.back) at c.read_item.ensures in
    let place = c.unwrap_or-in-Unknown.ensures
    ∙ ap (λ (w : Option ℕ). unwrap_or w (c.args.self.now.place + c.args.size))
    c.first_wrong-wrong.ensures in
    subst (λ (k : ℕ). IsFirstBad bytes k) (sym place)
    (item_unknown bytes c.args.self.now c.args.told c.args.size c.requires.walked c.requires.total
    c.requires.tells front)

pub returns-in_ok-push-in-Text : goal.returns-in_ok-push-in-Text
returns-in_ok-push-in-Text c =
    let holds = rw (c.in-Text.is, c.split_at.ensures.back) at c.read_item.ensures in
    walked-on c.args.bytes.now c.args.self.now c.push.new.self c.args.told c.args.size
    c.in-Text.text.now c.in-Text.more c.first_wrong-wrong.result c.requires.walked c.requires.tells
    holds c.first_wrong-wrong.ensures c.in_ok-push-in-Text.ensures

pub returns-in_ok-push-in-Number : goal.returns-in_ok-push-in-Number
returns-in_ok-push-in-Number c =
    let holds = rw (c.in-Number.is, c.split_at.ensures.back) at c.read_item.ensures in
    let kept = rw c.as_slice.ensures.bytes at c.in_ok-push-in-Number.ensures in
    walked-on c.args.bytes.now c.args.self.now c.push-in-Number.new.self c.args.told c.args.size
    c.in-Number.decimal c.in-Number.more c.first_wrong-wrong.result c.requires.walked
    c.requires.tells holds c.first_wrong-wrong.ensures kept
