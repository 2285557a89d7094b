-- Serves the clauses of delete.
use Rattle.std.proofs.Common.{◌≡◌, ◌<◌, ◌++◌, ◌∙◌, List, length, drop, map, pos, sym, ap, arith}
use Rattle.std.proofs.lemmas.Bool.Decides.{nat_tests}
use Rattle.std.proofs.lemmas.List.{append-nil}
use Rattle.key_cmds.specs.inner.Several.{del_note, natives_named, note_keys, notes_left, notes_named}
use Rattle.core_types.specs.declared.effect.Effect.{Effect}
use Rattle.core_types.specs.declared.reply.Reply.{Reply}
use Rattle.core_types.specs.declared.reply.Reply.TheVariants as reply
use Rattle.key_cmds.specs.Run.{told}
use Rattle.key_cmds.specs.SeveralKeys.{deletes, removed}
use Rattle.key_cmds.proofs.Removing.{none_named, noted_gone, noted_natives, noted_removed, noted_some, told_removed}
use Rattle.key_cmds.proofs.deleting.delete.Goals as goal

pub returns-then-is_empty-clause-keys : goal.returns-then-is_empty-clause-keys
returns-then-is_empty-clause-keys g c =
    let notes = c.in_ok-notes.notes in
    let same : notes.items ≡ notes_named c.args.keys.now (drop 1 c.args.words.now) =
    ap (λ v. v.items) (sym c.in_ok-notes.notes-is) ∙ c.in_ok-notes.ensures.notes ∙ ap (notes_named c.args.keys.now) c.from_place.ensures.words in
    let none : length notes.items ≡ 0 = grind (arith, nat_tests) in
    sym (ap (λ after. after.keys) (none_named notes.items (drop 1 c.args.words.now) c.args.keys.now same none))

pub remove_each-requires-clause-left : goal.remove_each-requires-clause-left
remove_each-requires-clause-left g c =
    let notes = c.in_ok-notes.notes in
    let names = drop 1 c.args.words.now in
    let keys = c.args.keys.now in
    let same : c.from_vec.result.items ≡ notes_named keys names =
    c.from_vec.ensures.items ∙ c.in_ok-notes.ensures.notes ∙ ap (notes_named c.args.keys.now) c.from_place.ensures.words in
    let count : c.in_ok-notes.natives ≡ length (natives_named keys names) =
    sym c.in_ok-notes.natives-is ∙ c.in_ok-notes.ensures.natives ∙ ap (λ names. length (natives_named c.args.keys.now names)) c.from_place.ensures.words in
    let natives = ap length (noted_natives c.from_vec.result.items names keys same) in
    omega (arith, natives, count, c.in_ok-reserve.ensures.ok)

pub returns-clause-keys : goal.returns-clause-keys
returns-clause-keys g c =
    let names = drop 1 c.args.words.now in
    let same : c.from_vec.result.items ≡ notes_named c.args.keys.now names =
    c.from_vec.ensures.items ∙ c.in_ok-notes.ensures.notes ∙ ap (notes_named c.args.keys.now) c.from_place.ensures.words in
    c.remove_each.ensures.keys ∙ ap (λ after. after.keys) (noted_removed c.from_vec.result.items names c.args.keys.now same)

pub returns-then-is_empty-clause-left : goal.returns-then-is_empty-clause-left
returns-then-is_empty-clause-left g c =
    let notes = c.in_ok-notes.notes in
    let same : notes.items ≡ notes_named c.args.keys.now (drop 1 c.args.words.now) =
    ap (λ v. v.items) (sym c.in_ok-notes.notes-is) ∙ c.in_ok-notes.ensures.notes ∙ ap (notes_named c.args.keys.now) c.from_place.ensures.words in
    let none : length notes.items ≡ 0 = grind (arith, nat_tests) in
    sym (append-nil c.args.left.now.items)
    ∙ ap (λ after. c.args.left.now.items ++ after.left) (sym (none_named notes.items (drop 1 c.args.words.now) c.args.keys.now same none))

pub returns-then-is_empty-clause-told : goal.returns-then-is_empty-clause-told
returns-then-is_empty-clause-told g c =
    let notes = c.in_ok-notes.notes in
    let same : notes.items ≡ notes_named c.args.keys.now (drop 1 c.args.words.now) =
    ap (λ v. v.items) (sym c.in_ok-notes.notes-is) ∙ c.in_ok-notes.ensures.notes ∙ ap (notes_named c.args.keys.now) c.from_place.ensures.words in
    let none : length notes.items ≡ 0 = grind (arith, nat_tests) in
    c.answer.ensures.answers
    ∙ sym (ap (λ after. told (deletes after c.args.words.now)) (none_named notes.items (drop 1 c.args.words.now) c.args.keys.now same none))

pub returns-clause-left : goal.returns-clause-left
returns-clause-left g c =
    let names = drop 1 c.args.words.now in
    let same : c.from_vec.result.items ≡ notes_named c.args.keys.now names =
    c.from_vec.ensures.items ∙ c.in_ok-notes.ensures.notes ∙ ap (notes_named c.args.keys.now) c.from_place.ensures.words in
    c.remove_each.ensures.left ∙ ap (λ items. items ++ (removed (note_keys c.from_vec.result.items) c.args.keys.now).left) c.in_ok-reserve.ensures.items
    ∙ ap (λ after. c.args.left.now.items ++ after.left) (noted_removed c.from_vec.result.items names c.args.keys.now same)

pub returns-clause-told : goal.returns-clause-told
returns-clause-told g c =
    let names = drop 1 c.args.words.now in
    let keys = c.args.keys.now in
    let same : c.from_vec.result.items ≡ notes_named keys names =
    c.from_vec.ensures.items ∙ c.in_ok-notes.ensures.notes ∙ ap (notes_named c.args.keys.now) c.from_place.ensures.words in
    let gone : c.from_vec-2.result ≡ map del_note (removed names keys).gone =
    c.from_vec-2.ensures.items ∙ c.remove_each.ensures.gone
    ∙ ap (λ notes. notes ++ notes_left c.from_vec.result.items keys) c.in_ok-gone.ensures.items
    ∙ noted_gone c.from_vec.result.items names keys same in
    let counted : c.len-2.result ≡ length c.from_vec-2.result = grind arith in
    let has : 0 < length c.from_vec.result.items = grind (arith, nat_tests) in
    let went = noted_some c.from_vec.result.items names keys same has in
    ap (λ (r : Reply). record { reply = r; effects = c.in_ok-effects.effects; notes = c.from_vec-2.result }) c.counted.ensures
    ∙ ap (λ (es : List Effect). record { reply = reply.Int (pos c.len-2.result); effects = es; notes = c.from_vec-2.result }) c.in_ok-effects.ensures
    ∙ told_removed (removed names keys) c.args.words.now c.from_vec-2.result c.len-2.result gone counted (omega (arith, counted, ap length gone, went))
