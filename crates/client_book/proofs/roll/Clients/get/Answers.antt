use Rattle.std.proofs.Common.{ap, sym, ◌∙◌}
use Rattle.std.specs.Ordering.{nat_cmp}
use Rattle.std.specs.Cmp.{nat_cmp_total}
use Rattle.std.specs.FinMap.{find, get, get-from_entries}
use Rattle.client_book.proofs.roll.Clients.get.Goals as goal

pub loop-number-init : goal.loop-number-init
loop-number-init c =
    ap (λ roll. get roll.clients c.args.client) (sym c.self.view_is)
    ∙ get-from_entries nat_cmp_total c.self.inside.records.items c.args.client
    ∙ ap (find nat_cmp c.args.client) (sym c.deref-number-items.ensures.value)
