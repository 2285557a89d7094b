-- Serves the clause on the first ticket of a key.
use Rattle.std.proofs.Common.{◌≡◌, None, Some, ap, sym, ◌∙◌}
use Rattle.std.specs.Option.{option_copied}
use Rattle.std.specs.Cmp.Lexicographic.{nat_list_cmp_total}
use Rattle.std.specs.FinMap as map
use Rattle.std.proofs.lemmas.Map.Lookups.{exact_bytes}
use Rattle.key_waiters.specs.inner.Lines.{LinesMap}
use Rattle.key_waiters.proofs.Trees.{get-by_read}
use Rattle.key_waiters.proofs.First.{first_in, first_of_none}
use Rattle.key_waiters.proofs.lines.Lines.first.Goals as goal

pub returns-in-Some : goal.returns-in-Some
returns-in-Some c =
    let key = c.args.key.now in
    let at : map.get c.args.self.now key ≡ Some c.in-Some.line.now =
    ap (λ (m : LinesMap). map.get m key) (sym c.self.view_is)
    ∙ get-by_read nat_list_cmp_total exact_bytes
    (λ k. k.items) c.self.inside.lines.entries key ∙ sym c.get.ensures.value
    ∙ ap option_copied c.in-Some.is in
    record {
      first = first_in c.args.self.now key c.args.above c.in-Some.line.now c.first.result
          at c.first.ensures.first;
    }

pub returns-in-None : goal.returns-in-None
returns-in-None c =
    let key = c.args.key.now in
    let none : map.get c.args.self.now key ≡ None =
    ap (λ (m : LinesMap). map.get m key) (sym c.self.view_is)
    ∙ get-by_read nat_list_cmp_total exact_bytes
    (λ k. k.items) c.self.inside.lines.entries key ∙ sym c.get.ensures.value
    ∙ ap option_copied c.in-None.is in
    record { first = first_of_none c.args.self.now key c.args.above none }
