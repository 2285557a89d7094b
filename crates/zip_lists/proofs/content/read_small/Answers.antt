use Rattle.std.proofs.Common.{ℕ, ap, ◌∙◌}
use Rattle.std.specs.Fmt.{decimal}
use Rattle.zip_lists.proofs.ItemFronts.{small_first}
use Rattle.zip_lists.proofs.content.read_small.Goals as goal

pub returns : goal.returns
returns c =
    small_first c.args.bytes.now c.u64_text.result c.args.mark c.requires.first c.requires.low
    c.requires.high (c.u64_text.ensures.text ∙ ap (λ (n : ℕ). decimal n) c.from.ensures)
