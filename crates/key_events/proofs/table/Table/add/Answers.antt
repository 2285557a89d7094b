-- Serves the clauses on the names of a client after one was added or refused.
use Rattle.std.proofs.Common.{◌≡◌, None, IsSome, is_some, unwrap_or, [], ◌∷◌, ◌++◌, refl, ap, sym, ◌∙◌}
use Rattle.std.specs.FinMap as map
use Rattle.std.proofs.lemmas.Result.{on_ok_weaker, on_err_weaker}
use Rattle.key_events.specs.Rolls.{RollMap, NameList, with_new_name}
use Rattle.key_events.proofs.Entries.{get-tree, inserted}
use Rattle.key_events.proofs.Renamed.{roll_of, renamed, added, reinserted, is_none}
use Rattle.key_events.proofs.table.Table.add.Goals as goal

pub returns-then-contains_key-clause-ok : goal.returns-then-contains_key-clause-ok
returns-then-contains_key-clause-ok c =
    let tree = c.self.inside.clients in
    let client = c.args.client in
    let name = c.args.name.now in
    let there : IsSome (map.get (roll_of tree) client) = ap is_some (get-tree tree client)
    ∙ sym c.contains_key.ensures ∙ c.if-contains_key.true in
    on_ok_weaker c.add.result
    (λ writes. renamed tree c.add.new.clients client (λ ns. ns ++ name ∷ []) writes
    ∙ added (roll_of tree) client name (map.get (roll_of tree) client) there
    ∙ ap (λ (m : RollMap). with_new_name m client name) c.self.view_is)
    c.add.ensures.ok

pub returns-then-contains_key-clause-err : goal.returns-then-contains_key-clause-err
returns-then-contains_key-clause-err c =
    let tree = c.self.inside.clients in
    let client = c.args.client in
    on_err_weaker c.add.result
    (λ writes. renamed tree c.add.new.clients client (λ ns. ns) writes
    ∙ reinserted (roll_of tree) client (map.get (roll_of tree) client) refl ∙ c.self.view_is)
    c.add.ensures.err

pub returns-in-Ok-clause-ok : goal.returns-in-Ok-clause-ok
returns-in-Ok-clause-ok c =
    let tree = c.self.inside.clients in
    let client = c.args.client in
    let name = c.args.name.now in
    let none : map.get (roll_of tree) client ≡ None =
    is_none (map.get (roll_of tree) client)
    (ap is_some (get-tree tree client) ∙ sym c.contains_key.ensures
    ∙ c.if-contains_key.false) in
    let names : c.push.new.self ≡ name ∷ [] =
    c.in_ok-push.ensures.ok ∙ ap (λ (ns : NameList). ns ++ name ∷ []) c.new-names.ensures.empty in
    inserted tree c.insert.new.self client c.push.new.self c.in-Ok.ensures.updates
    ∙ ap (map.insert (roll_of tree) client) names
    ∙ ap (λ o. map.insert (roll_of tree) client (unwrap_or o [] ++ name ∷ [])) (sym none)
    ∙ ap (λ (m : RollMap). with_new_name m client name) c.self.view_is
