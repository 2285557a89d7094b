use Rattle.std.proofs.Common.{ap, sym, ◌∙◌}
use Rattle.std.specs.List.{list_any}
use Rattle.std.specs.Ordering.{nat_cmp}
use Rattle.std.specs.BTreeMap.{is_at}
use Rattle.client_book.proofs.Marking.{same_marked, rest_marked, skipped}
use Rattle.client_book.proofs.table.mark_all.Goals as goal

pub loop-client-preserved : goal.loop-client-preserved
loop-client-preserved c =
    let key = c.args.key.now in
    let client = c.in-Some.client.now in
    record {
      same = λ q. same_marked key client c.loop-client.clients c.mark.new.clients c.mark.ensures.marked q ∙ c.loop-client.invariant.same q;
      rest = λ q out. rest_marked key client c.loop-client.clients c.mark.new.clients c.mark.ensures.marked q
          (λ apart. c.loop-client.invariant.rest q (ap (list_any (is_at (nat_cmp q))) c.in-Some.ensures.steps ∙ skipped q client c.next.new.self apart out));
    }

pub returns : goal.returns
returns c = record {
  marked = λ q. sym (c.loop-client.invariant.rest q (ap (list_any (is_at (nat_cmp q))) c.in-None.ensures.steps.0)) ∙ c.loop-client.invariant.same q;
}
