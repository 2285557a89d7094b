use Rattle.std.proofs.Common.{◌≡◌, ◌+◌, ◌-◌, take, drop, ap, sym, ◌∙◌, arith}
use Rattle.std.proofs.lemmas.List.{drop-take}
use Rattle.core_types.proofs.list_body.keep_range.Goals as goal

pub returns : goal.returns
returns c =
    let none : c.loop-more.more ≡ 0 = omega (arith, c.loop-more-test.false) in
    let whole : c.args.end ≡ c.args.start + (c.args.end - c.args.start) = omega (arith, c.requires.order) in
    record {
      kept = ap (λ n. drop n c.loop-more.items.items) (sym none) ∙ c.loop-more.invariant.0
          ∙ ap (drop c.args.start) (c.truncate.ensures.items ∙ ap (λ n. take n c.args.items.now.items) whole)
          ∙ drop-take c.args.start (c.args.end - c.args.start) c.args.items.now.items;
    }
