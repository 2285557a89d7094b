-- Serves the clauses on the lines after a client was entered or refused.
use Rattle.std.proofs.Common.{◌≡◌, None, IsSome, is_some, unwrap_or, refl, ap, sym, ◌∙◌}
use Rattle.std.specs.Cmp.Lexicographic.{nat_list_cmp_total}
use Rattle.std.specs.FinMap as finite
use Rattle.std.specs.FinSet as set
use Rattle.std.proofs.lemmas.Map.Lookups.{exact_bytes}
use Rattle.std.proofs.lemmas.Result.{on_ok_weaker, on_err_weaker}
use Rattle.key_events.specs.inner.Lines.{LineSet, LinesMap, with_place}
use Rattle.key_events.proofs.Trees.{from_entries-put}
use Rattle.key_events.proofs.Changed.{lines_of, line_at, rewritten, placed, reinserted, is_none}
use Rattle.key_events.proofs.lines.Lines.insert.Goals as goal

pub returns-then-contains_key-clause-ok : goal.returns-then-contains_key-clause-ok
returns-then-contains_key-clause-ok c =
    let tree = c.self.inside.lines in
    let name = c.args.name.now in
    let there : IsSome (finite.get (lines_of tree) name) = ap is_some (line_at tree name)
    ∙ sym c.contains_key.ensures ∙ c.if-contains_key.true in
    on_ok_weaker c.add.result
    (λ writes. rewritten tree c.add.new.lines name (λ s. set.insert s c.args.client) writes
    ∙ placed (lines_of tree) name c.args.client (finite.get (lines_of tree) name) there
    ∙ ap (λ (m : LinesMap). with_place m name c.args.client) c.self.view_is)
    c.add.ensures.ok

pub returns-then-contains_key-clause-err : goal.returns-then-contains_key-clause-err
returns-then-contains_key-clause-err c =
    let tree = c.self.inside.lines in
    let name = c.args.name.now in
    on_err_weaker c.add.result
    (λ writes. rewritten tree c.add.new.lines name (λ s. s) writes
    ∙ reinserted (lines_of tree) name (finite.get (lines_of tree) name) refl ∙ c.self.view_is)
    c.add.ensures.err

pub returns-clause-ok : goal.returns-clause-ok
returns-clause-ok c =
    let tree = c.self.inside.lines in
    let name = c.args.name.now in
    let none : finite.get (lines_of tree) name ≡ None =
    is_none (finite.get (lines_of tree) name)
    (ap is_some (line_at tree name) ∙ sym c.contains_key.ensures
    ∙ c.if-contains_key.false) in
    let line : c.insert.new.self ≡ set.insert set.empty c.args.client =
    c.in_ok-insert.ensures.ok
    ∙ ap (λ (s : LineSet). set.insert s c.args.client) c.new-line.ensures.empty in
    from_entries-put nat_list_cmp_total exact_bytes
    (λ k. k.items) tree c.insert-2.new.self c.in_ok-copy.copy.items c.insert.new.self
    c.in_ok-insert-2.ensures.updates
    ∙ ap (λ k. finite.insert (lines_of tree) k c.insert.new.self) c.in_ok-copy.ensures.items
    ∙ ap (finite.insert (lines_of tree) name) line
    ∙ ap (λ o. finite.insert (lines_of tree) name
    (set.insert (unwrap_or o set.empty) c.args.client)) (sym none)
    ∙ ap (λ (m : LinesMap). with_place m name c.args.client) c.self.view_is
