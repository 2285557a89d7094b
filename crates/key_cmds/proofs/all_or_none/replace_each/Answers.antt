-- Serves the clauses of replace_each.
use Rattle.std.proofs.Common.{◌≡◌, ◌∷◌, ◌++◌, List, length, sym, ap, subst, ◌∙◌, arith, length-append}
use Rattle.core_types.specs.Keys.{value_at}
use Rattle.key_cmds.specs.Leaving.{KeysAndLeft}
use Rattle.key_cmds.specs.Run.{native_in}
use Rattle.key_cmds.specs.SeveralKeys.{Pair, left_by_pairs}
use Rattle.key_cmds.specs.inner.Setting.{with_pair}
use Rattle.key_cmds.proofs.AllOrNone.{AreSetBut, one_set}
use Rattle.key_cmds.proofs.all_or_none.replace_each.Goals as goal

pub loop-setting-preserved : goal.loop-setting-preserved
loop-setting-preserved g c =
    let rest = c.pop_front.new.self.items in
    let all = c.args.settings.items in
    let keys = c.loop-setting.keys in
    let left = c.loop-setting.left.items in
    let pair : Pair = record { key = c.setting.inside.name; value = c.setting.inside.text } in
    let before : KeysAndLeft g.row.N.Denot =
    record { keys = c.args.keys.now; left = c.args.left.now.items } in
    let now : KeysAndLeft g.row.N.Denot = record { keys = keys; left = left } in
    let after : KeysAndLeft g.row.N.Denot =
    record { keys = c.replace_by.new.self; left = c.hand_over.new.left.items } in
    let taken : c.loop-setting.settings.items ≡ pair ∷ rest =
    c.in-Some.ensures.items ∙ ap (λ (p : Pair). p ∷ rest) (sym c.setting.view_is) in
    let had = c.replace_by.ensures.before in
    let set = c.replace_by.ensures.now in
    let whole = ap (λ (ps : List Pair). length (left_by_pairs ps keys)) taken in
    let next = left_by_pairs rest (with_pair keys pair) in
    let parts = length-append (native_in (value_at keys pair.key)) next in
    let one = ap (λ o. length (native_in o)) had in
    let others = ap (λ k. length (left_by_pairs rest k)) set in (
      one_set pair rest all before now after
          (subst (λ (ps : List Pair). AreSetBut ps all before now) taken c.loop-setting.invariant.0)
          set
          (c.hand_over.ensures.items ∙ ap (λ o. left ++ native_in o) had),
      omega (
        arith,
        c.loop-setting.invariant.1,
        whole,
        parts,
        one,
        others,
        c.hand_over.ensures.length,
        c.hand_over.ensures.capacity,
      ),
    )
