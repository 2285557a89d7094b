use Rattle.std.proofs.Common.{◌≡◌, ◌∙◌, slice_get, Some, sym, arith}
use Rattle.zip_lists.proofs.ItemFronts.{short_announced, empty_open}
use Rattle.zip_lists.proofs.content.read_item.Goals as goal

pub returns-in_default : goal.returns-in_default
returns-in_default c = empty_open c.args.bytes.now (sym c.first.ensures.value
    ∙ sym c.copied.ensures ∙ c.in_default.is)

pub take_text-requires-clause-announced : goal.take_text-requires-clause-announced
take_text-requires-clause-announced c =
    let some : slice_get c.args.bytes.now 0 ≡ Some c.in-Some.mark = sym c.first.ensures.value
    ∙ sym c.copied.ensures ∙ c.in-Some.is in
    short_announced c.args.bytes.now c.in-Some.mark c.from.result some (omega arith) c.from.ensures
