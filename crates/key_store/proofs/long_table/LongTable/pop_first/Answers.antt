-- Serves clauses first and rest of LongTable::pop_first.
use Rattle.std.proofs.Common.{ap, ◌∙◌, slice_get}
use Rattle.std.specs.FinMap as finite
use Rattle.std.specs.Cmp.Lexicographic.{nat_list_cmp_total}
use Rattle.std.proofs.lemmas.Map.Lookups.{exact_bytes}
use Rattle.key_store.proofs.Trees.{first_taken, rest_left}
use Rattle.key_store.proofs.long_table.LongTable.pop_first.Goals as goal

pub returns-clause-first : goal.returns-clause-first
returns-clause-first g c =
    let taken = c.pop_first.ensures in
    first_taken nat_list_cmp_total exact_bytes (λ k. k.items) c.self.inside.entries c.pop_first.new.self c.pop_first.result taken.variant taken.removal taken.all_above taken.ordered
    ∙ ap (λ keys. slice_get (finite.entries keys) 0) c.self.view_is

pub returns-clause-rest : goal.returns-clause-rest
returns-clause-rest g c =
    let taken = c.pop_first.ensures in
    rest_left nat_list_cmp_total exact_bytes (λ k. k.items) c.self.inside.entries c.pop_first.new.self c.pop_first.result c.args.self.now taken.updates taken.unchanged c.self.view_is
