-- Serves clause does of remove.
use Rattle.std.proofs.Common.{◌≡◌, ◌-◌, ◌∙◌, ℕ, Bool, true, false, List, [], length, codes, sym, ap, subst, Some, arith}
use Rattle.std.specs.Prelude.{◌==◌}
use Rattle.std.proofs.lemmas.Bool.Decides.{nat_tests}
use Rattle.byte_text.specs.Number.{number_in}
use Rattle.core_types.specs.Done.{Does}
use Rattle.sequences.specs.Words.{word}
use Rattle.core_types.specs.declared.outcome.After.TheVariants as after
use Rattle.core_types.specs.declared.outcome.Outcome.{Outcome}
use Rattle.core_types.specs.declared.reply.Reply.{Reply}
use Rattle.core_types.specs.declared.reply.Reply.TheVariants as reply
use Rattle.list_cmds.specs.Taking.{leaves_of, without}
use Rattle.list_cmds.specs.Words.{counted}
use Rattle.list_cmds.proofs.Equals.{same_without}
use Rattle.list_cmds.proofs.Numbers.{as_number}
use Rattle.list_cmds.proofs.Outcomes.{none_done, removed_done, taken_outcome}
use Rattle.list_cmds.proofs.taking.remove.Goals.{then-is_empty, else-is_empty}
use Rattle.list_cmds.proofs.taking.remove.Goals as goal

-- the outcome of an answer, and of a change, with this reply
abbrev none_of : Reply → Outcome (List (List ℕ))
none_of said = record { body = after.Keep; reply = said; effects = []; notes = [] }

abbrev told : Outcome (List (List ℕ)) → Reply → Outcome (List (List ℕ))
told o said = record { body = o.body; reply = said; effects = o.effects; notes = o.notes }

pub returns-then-count-eq0-clause-does : goal.returns-then-count-eq0-clause-does
returns-then-count-eq0-clause-does c =
    let held = c.args.old.now in
    let words = c.args.words.now in
    let new = c.remove_equal-count.new.list in
    let item = word 3 words in
    let left : new ≡ without (number_in (word 2 words)) item held =
    c.remove_equal-count.ensures.left ∙ ap (λ n. without n c.word-2.result.now held) (as_number c.number_in.result c.word.result.now (word 2 words) c.number_in.ensures.value c.word.ensures.word)
    ∙ ap (λ w. without (number_in (word 2 words)) w held) c.word-2.ensures.word in
    let size : length (without (number_in (word 2 words)) item held) ≡ length held = omega (arith, ap length left, c.remove_equal-count.ensures.count, c.if-count-eq0.true) in
    let same = left ∙ same_without (number_in (word 2 words)) item held size in
    subst (λ (l : List (List ℕ)). Does c.answer.result (Some held) (Some new) (leaves_of held l words)) left
    (none_done c.answer.result held new words (c.answer.ensures.answers ∙ ap none_of c.counted.ensures) same)

pub returns-clause-does : goal.returns-clause-does
returns-clause-does c =
    let held = c.args.old.now in
    let words = c.args.words.now in
    let new = c.remove_equal-count.new.list in
    let item = word 3 words in
    let left : new ≡ without (number_in (word 2 words)) item held =
    c.remove_equal-count.ensures.left ∙ ap (λ n. without n c.word-2.result.now held) (as_number c.number_in.result c.word.result.now (word 2 words) c.number_in.ensures.value c.word.ensures.word)
    ∙ ap (λ w. without (number_in (word 2 words)) w held) c.word-2.ensures.word in
    let outcome = c.if-is_empty.outcome in
    let said = c.counted-2.result in
    let count : c.remove_equal-count.result ≡ length held - length new = omega (arith, c.remove_equal-count.ensures.count) in
    let replied : said ≡ counted (length held - length new) = c.counted-2.ensures ∙ ap counted count in
    let differ : (length held == length new) ≡ false = grind (arith, nat_tests, c.remove_equal-count.ensures.count, c.if-count-eq0.false) in
    let done : (all : Bool) → outcome ≡ taken_outcome all reply.Null (codes "LREM") (codes "lrem") words → (length new == 0) ≡ all → Does (told outcome said) (Some held) (Some new) (leaves_of held new words) =
    λ all e f. removed_done all (told outcome said) held new words
    (ap (λ o. told o said) e ∙ ap (λ r. taken_outcome all r (codes "LREM") (codes "lrem") words) replied) f differ in
    subst (λ (l : List (List ℕ)). Does (told outcome said) (Some held) (Some new) (leaves_of held l words)) left
    (elim c.if-is_empty.branch [
      | then-is_empty w ↦ done true (w.outcome-is ∙ c.in_ok-emptied.ensures.outcome) (sym c.is_empty.ensures.empty ∙ w.if-is_empty.true)
      | else-is_empty w ↦ done false (w.outcome-is ∙ c.in_ok-left.ensures.outcome) (sym c.is_empty.ensures.empty ∙ w.if-is_empty.false)
    ])
