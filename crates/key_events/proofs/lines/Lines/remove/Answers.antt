-- Serves the clause on the lines after a client was taken out.
use Rattle.std.proofs.Common.{◌≡◌, ◌==◌, true, false, ap, sym, ◌∙◌}
use Rattle.std.specs.Cmp.Lexicographic.{nat_list_cmp_total}
use Rattle.std.specs.Option.{option_map_or}
use Rattle.std.specs.FinMap as finite
use Rattle.std.specs.FinSet as set
use Rattle.std.proofs.lemmas.Map.Lookups.{exact_bytes}
use Rattle.key_events.specs.inner.Lines.{LineSet, LinesMap, without_place}
use Rattle.key_events.proofs.Trees.{from_entries-removed}
use Rattle.key_events.proofs.Changed.{lines_of, line_at, rewritten, emptied, left}
use Rattle.key_events.proofs.lines.Lines.remove.Goals as goal

pub returns-then-take : goal.returns-then-take
returns-then-take c =
    let tree = c.self.inside.lines in
    let name = c.args.name.now in
    let t = c.args.client in
    let is : option_map_or (λ (s : LineSet). set.len (set.remove s t) == 0)
    (finite.get (lines_of tree) name) false ≡ true =
    ap (λ o. option_map_or (λ (s : LineSet). set.len (set.remove s t) == 0) o false)
    (line_at tree name) ∙ sym c.take.ensures.empty ∙ c.if-take.true in
    record {
      removed = from_entries-removed nat_list_cmp_total exact_bytes
          (λ k. k.items) c.take.new.lines c.cut.new.lines name c.cut.ensures
          ∙ ap (λ (m : LinesMap). finite.remove m name)
          (rewritten tree c.take.new.lines name (λ s. set.remove s t) c.take.ensures.taken)
          ∙ emptied (lines_of tree) name t (finite.get (lines_of tree) name) is
          ∙ ap (λ (m : LinesMap). without_place m name t) c.self.view_is;
    }

pub returns-else-take : goal.returns-else-take
returns-else-take c =
    let tree = c.self.inside.lines in
    let name = c.args.name.now in
    let t = c.args.client in
    let is : option_map_or (λ (s : LineSet). set.len (set.remove s t) == 0)
    (finite.get (lines_of tree) name) false ≡ false =
    ap (λ o. option_map_or (λ (s : LineSet). set.len (set.remove s t) == 0) o false)
    (line_at tree name) ∙ sym c.take.ensures.empty ∙ c.if-take.false in
    record {
      removed = rewritten tree c.take.new.lines name (λ s. set.remove s t) c.take.ensures.taken
          ∙ left (lines_of tree) name t (finite.get (lines_of tree) name) is
          ∙ ap (λ (m : LinesMap). without_place m name t) c.self.view_is;
    }
