-- Serves clause does of remove_fields.
use Rattle.std.proofs.Common.{◌≡◌, ◌∙◌, ◌-◌, sym, ap, refl, length, drop, Some, pos, List}
use Rattle.core_types.specs.Done.{answers}
use Rattle.core_types.specs.Fields.{without_fields}
use Rattle.core_types.specs.declared.field.Field.{Field}
use Rattle.core_types.specs.declared.reply.Reply.TheVariants as reply
use Rattle.hash_cmds.specs.Removing.{remove_fields}
use Rattle.hash_cmds.proofs.Outcomes.{does_by}
use Rattle.hash_cmds.proofs.Leaving.{no_count, none_done, none_gone}
use Rattle.hash_cmds.proofs.removing.remove_fields.Goals as goal

pub returns-then-count-eq0-clause-does : goal.returns-then-count-eq0-clause-does
returns-then-count-eq0-clause-does c =
    let held = c.args.hash.now in
    let words = c.args.words.now in
    let rest = c.take_out.new.hash in
    let left : rest ≡ without_fields held (drop 2 words) =
    c.in_ok-count.ensures.left ∙ ap (without_fields held) c.from_place.ensures.words in
    let none : length held - length rest ≡ 0 =
    no_count (length held - length rest) c.in_ok-count.count c.in_ok-count.ensures.count c.if-count-eq0.true in
    let same : rest ≡ held = left ∙ none_gone held (drop 2 words) (ap (λ (fs : List Field). length held - length fs) (sym left) ∙ none) in
    does_by c.answer.result _ (Some held) (Some rest) (remove_fields held words) (answers (reply.Int (pos 0)))
    c.answer.ensures.answers
    (sym (none_done held rest words left none))
    record { body = ap Some same; reply = refl; effects = refl; notes = refl }
