-- Serves the clause on the clients that have a name.
use Rattle.std.proofs.Common.{◌≡◌, None, Some, false, ap, sym, subst, ◌∙◌}
use Rattle.std.specs.Option.{option_copied, option_map_or}
use Rattle.std.specs.Cmp.Lexicographic.{nat_list_cmp_total}
use Rattle.std.specs.List.Sorted.{IsStrictlySortedBy}
use Rattle.std.specs.FinMap as map
use Rattle.std.specs.FinSet as set
use Rattle.std.proofs.lemmas.Map.Lookups.{exact_bytes}
use Rattle.std.proofs.lemmas.Result.{IfOk-weaker}
use Rattle.key_events.specs.inner.Lines.{LinesMap, holds}
use Rattle.key_events.specs.inner.Listing.{Lists}
use Rattle.key_events.proofs.Trees.{get-by_read}
use Rattle.key_events.proofs.lines.Lines.clients.Goals as goal

pub returns-in-Some : goal.returns-in-Some
returns-in-Some c =
    let name = c.args.name.now in
    let at : map.get c.args.self.now name ≡ Some c.in-Some.line.now =
    ap (λ (m : LinesMap). map.get m name) (sym c.self.view_is)
    ∙ get-by_read nat_list_cmp_total exact_bytes
    (λ k. k.items) c.self.inside.lines.entries name ∙ sym c.get.ensures.value
    ∙ ap option_copied c.in-Some.is in
    record {
      lists = IfOk-weaker c.copy.result _ _
          (λ clients lists. record {
            rises = lists.rises;
            same = λ q. lists.same q
                ∙ ap (λ o. option_map_or (λ s. set.contains s q) o false) (sym at);
          })
          c.copy.ensures.lists;
    }

pub returns-in-None : goal.returns-in-None
unfolding IsStrictlySortedBy
returns-in-None c =
    let name = c.args.name.now in
    let none : map.get c.args.self.now name ≡ None =
    ap (λ (m : LinesMap). map.get m name) (sym c.self.view_is)
    ∙ get-by_read nat_list_cmp_total exact_bytes
    (λ k. k.items) c.self.inside.lines.entries name ∙ sym c.get.ensures.value
    ∙ ap option_copied c.in-None.is in
    record {
      lists = subst (λ ks. Lists ks (holds c.args.self.now name)) (sym c.new.ensures.items) (record {
        rises = tt;
        same = λ q. ap (λ o. option_map_or (λ s. set.contains s q) o false) (sym none);
      });
    }
