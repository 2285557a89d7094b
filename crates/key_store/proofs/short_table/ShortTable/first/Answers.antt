-- Serves the clause of ShortTable::first.
use Rattle.std.proofs.Common.{None, Some, sym, ◌∙◌}
use Rattle.std.specs.Cmp.Lexicographic.{nat_list_cmp_total}
use Rattle.std.proofs.lemmas.Map.Lookups.{exact_bytes}
use Rattle.key_store.proofs.Trees.{first_name, none_first}
use Rattle.key_store.proofs.short_table.ShortTable.first.Goals as goal

pub returns-then-len-eq0 : goal.returns-then-len-eq0
returns-then-len-eq0 g c =
    let entries = c.self.inside.entries.entries in
    first_name nat_list_cmp_total exact_bytes (λ k. k) entries c.args.self.now None c.len.ensures.ordered c.self.view_is (none_first entries (sym c.len.ensures.len ∙ c.if-len-eq0.true))

pub returns-in-Some : goal.returns-in-Some
returns-in-Some g c =
    let entries = c.self.inside.entries.entries in
    first_name nat_list_cmp_total exact_bytes (λ k. k) entries c.args.self.now (Some (c.in-Some.key.now, c.in-Some.field-0-1.now)) c.len.ensures.ordered c.self.view_is c.in-Some.ensures.first
