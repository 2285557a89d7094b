-- Serves the clause of set.
use Rattle.std.proofs.Common.{◌≡◌, ◌∙◌, sym, ap, subst, drop, true, List, ℕ, Option, IfOk}
use Rattle.core_types.specs.Done.{Does, Done}
use Rattle.string_cmds.specs.declared.setting.Condition.{Condition}
use Rattle.string_cmds.specs.Setting.{condition_of, may_set, set_where, sets}
use Rattle.string_cmds.proofs.Outcomes.{allowed_set}
use Rattle.string_cmds.proofs.setting.set.Goals as goal

pub returns-in_ok-ok : goal.returns-in_ok-ok
returns-in_ok-ok c =
    let words = c.args.words.now in
    let asked = condition_of (drop 3 words) in
    let read : c.asked_by.result ≡ asked =
    c.asked_by.ensures ∙ ap condition_of c.from_place.ensures.words in
    let may : may_set asked c.args.there ≡ true =
    ap (λ (a : Option Condition). may_set a c.args.there) (sym read) ∙ sym c.may_set.ensures ∙ c.if-may_set.true in
    let same : sets c.in_ok-ok.ok words ≡ set_where asked c.args.there words =
    ap (λ said. sets said words) c.in_ok-ok.ensures.status ∙ sym (allowed_set asked c.args.there words may) in
    subst (λ (done : Done (List ℕ)). IfOk c.sets.result (λ o. (old : Option (List ℕ)) → Does o old old done)) same c.sets.ensures
