-- Serves the clauses of set_each, where each key has a value.
use Rattle.std.proofs.Common.{◌≡◌, ◌∙◌, ◌++◌, ◌==◌, ◌%◌, false, List, map, length, sym, ap, arith}
use Rattle.std.proofs.lemmas.Bool.Decides.{nat_tests}
use Rattle.core_types.specs.declared.effect.Effect.{Effect}
use Rattle.core_types.specs.declared.note.Note.{Note}
use Rattle.core_types.specs.declared.reply.Reply.{Reply}
use Rattle.key_cmds.specs.Run.{told}
use Rattle.key_cmds.specs.declared.ran.Ran.{Ran}
use Rattle.key_cmds.specs.SeveralKeys.{Pair, left_by_pairs, pairs_of, set_note, with_pairs}
use Rattle.key_cmds.proofs.PairsSet.{even_rest, sets_all}
use Rattle.key_cmds.proofs.setting.set_each.Goals as goal

ran_same : {reply said : Reply} {effects made : List Effect} {notes told : List Note} → reply ≡ said → effects ≡ made → notes ≡ told
    → ◌≡◌ {A = Ran} (record { reply = reply; effects = effects; notes = notes }) (record { reply = said; effects = made; notes = told })
ran_same r e n = cc

pub returns-clause-keys : goal.returns-clause-keys
returns-clause-keys g c =
    let words = c.args.words.now in
    let keys = c.args.keys.now in
    let odd : (length words % 2 == 0) ≡ false = grind (arith, nat_tests) in
    let even = even_rest words odd (omega (arith, c.requires)) in
    c.in_ok-set_pairs.ensures.keys
    ∙ ap (λ (pairs : List Pair). with_pairs pairs keys) (c.new-2.ensures.pairs ∙ ap pairs_of c.from_place-2.ensures.words)
    ∙ sym (ap (λ run. run.keys) (sets_all keys words even))

pub returns-clause-told : goal.returns-clause-told
returns-clause-told g c =
    let words = c.args.words.now in
    let keys = c.args.keys.now in
    let odd : (length words % 2 == 0) ≡ false = grind (arith, nat_tests) in
    let even = even_rest words odd (omega (arith, c.requires)) in
    ran_same c.in_ok-ok.ensures c.in_ok-own_change.ensures
    (c.in_ok-set_notes.ensures ∙ ap (λ pairs. map set_note pairs) (c.new.ensures.pairs ∙ ap pairs_of c.from_place.ensures.words))
    ∙ sym (ap told (sets_all keys words even))

pub returns-clause-left : goal.returns-clause-left
returns-clause-left g c =
    let words = c.args.words.now in
    let keys = c.args.keys.now in
    let odd : (length words % 2 == 0) ≡ false = grind (arith, nat_tests) in
    let even = even_rest words odd (omega (arith, c.requires)) in
    c.in_ok-set_pairs.ensures.left
    ∙ ap (λ (pairs : List Pair). c.args.left.now.items ++ left_by_pairs pairs keys) (c.new-2.ensures.pairs ∙ ap pairs_of c.from_place-2.ensures.words)
    ∙ sym (ap (λ run. c.args.left.now.items ++ run.left) (sets_all keys words even))
