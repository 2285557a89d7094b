use Rattle.std.proofs.Common.{ℕ, List, length, take, ap, arith}
use Rattle.zip_lists.proofs.ItemFronts.{text_open, text_first}
use Rattle.zip_lists.proofs.content.take_text.Goals as goal

pub returns-then-rest-size : goal.returns-then-rest-size
returns-then-rest-size c = text_open c.args.bytes.now c.args.start c.args.size c.requires.announced
    (omega (arith, ap (λ (t : List ℕ). length t) c.split_at.ensures.back))

pub returns : goal.returns
returns c =
    text_first c.args.bytes.now _ c.args.start c.args.size c.requires.within c.requires.announced
    (omega (arith, ap (λ (t : List ℕ). length t) c.split_at.ensures.back))
    (ap (λ (t : List ℕ). take c.args.size t) c.split_at.ensures.back)
