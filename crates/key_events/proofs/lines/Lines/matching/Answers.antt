-- Serves the clause on the clients that have a name which matches.
use Rattle.std.proofs.Common.{false, ap, sym, ◌∙◌}
use Rattle.std.specs.Option.{option_map_or}
use Rattle.std.specs.Cmp.Lexicographic.{nat_list_cmp_total}
use Rattle.std.specs.FinSet as set
use Rattle.std.proofs.lemmas.Map.Lookups.{exact_bytes}
use Rattle.std.proofs.lemmas.Result.{IfOk-weaker}
use Rattle.key_events.specs.inner.Lines.{LinesMap, holds}
use Rattle.key_events.proofs.Trees.{get-by_read}
use Rattle.key_events.proofs.Standing.{found_at}
use Rattle.key_events.proofs.lines.Lines.matching.Goals as goal

pub returns : goal.returns
returns c = record {
  finds = IfOk-weaker c.copy.result _ _
      (λ clients lists. record {
        rises = lists.rises;
        all = λ name q is stands. lists.same q ∙ c.in_ok-found.ensures.found q
            ∙ found_at c.args.text.now q name c.self.inside.lines.entries is
            (ap (λ o. option_map_or (λ s. set.contains s q) o false)
            (sym (get-by_read nat_list_cmp_total exact_bytes
            (λ k. k.items) c.self.inside.lines.entries name))
            ∙ ap (λ (m : LinesMap). holds m name q) c.self.view_is ∙ stands);
      })
      c.copy.ensures.lists;
}
