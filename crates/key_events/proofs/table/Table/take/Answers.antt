-- Serves the clause on the names of a client after one was taken out.
use Rattle.std.proofs.Common.{◌≡◌, true, false, refl, ap, sym, ◌∙◌}
use Rattle.std.specs.FinMap as map
use Rattle.key_events.specs.Rolls.{RollMap, without_name}
use Rattle.key_events.proofs.Entries.{get-tree, removed}
use Rattle.key_events.proofs.Renamed.{roll_of, renamed, rest_of, empties, emptied, left}
use Rattle.key_events.proofs.table.Table.take.Goals as goal

pub returns-then-take : goal.returns-then-take
returns-then-take c =
    let tree = c.self.inside.clients in
    let client = c.args.client in
    let name = c.args.name.now in
    let is : empties name (map.get (roll_of tree) client) ≡ true =
    ap (empties name) (get-tree tree client) ∙ sym c.take.ensures.empty ∙ c.if-take.true in
    record {
      taken = removed c.take.new.clients c.cut.new.clients client c.cut.ensures
          ∙ ap (λ (m : RollMap). map.remove m client)
          (renamed tree c.take.new.clients client (rest_of name) c.take.ensures.taken)
          ∙ emptied (roll_of tree) client name (map.get (roll_of tree) client) is
          ∙ ap (λ (m : RollMap). without_name m client name) c.self.view_is;
    }

pub returns-else-take : goal.returns-else-take
returns-else-take c =
    let tree = c.self.inside.clients in
    let client = c.args.client in
    let name = c.args.name.now in
    let is : empties name (map.get (roll_of tree) client) ≡ false =
    ap (empties name) (get-tree tree client) ∙ sym c.take.ensures.empty ∙ c.if-take.false in
    record {
      taken = renamed tree c.take.new.clients client (rest_of name) c.take.ensures.taken
          ∙ left (roll_of tree) client name (map.get (roll_of tree) client) refl is
          ∙ ap (λ (m : RollMap). without_name m client name) c.self.view_is;
    }
