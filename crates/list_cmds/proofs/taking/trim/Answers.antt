-- Serves clause does of trim.
use Rattle.std.proofs.Common.{◌≡◌, ◌≤◌, ◌∙◌, ℕ, List, length, codes, to_z, of_z, min, sym, ap, subst, Some}
use Rattle.std.specs.Prelude.{◌==◌}
use Rattle.std.specs.Int.{w64}
use Rattle.byte_text.specs.Number.{number_in}
use Rattle.sequences.specs.Words.{word}
use Rattle.core_types.specs.Cutting.{range_end, range_start, taken_range}
use Rattle.core_types.specs.Done.{Does}
use Rattle.core_types.specs.declared.reply.Reply.TheVariants as reply
use Rattle.list_cmds.specs.Taking.{leaves}
use Rattle.list_cmds.proofs.Outcomes.{left_done, taken_outcome}
use Rattle.list_cmds.proofs.Numbers.{as_number}
use Rattle.list_cmds.proofs.Ranges.{cut_empty, cut_items}
use Rattle.list_cmds.proofs.taking.trim.Goals as goal

pub returns-clause-does : goal.returns-clause-does
returns-clause-does c =
    let held = c.args.old.now in
    let words = c.args.words.now in
    let cut = c.cut_range-cut.result in
    let a = range_start (length held) (number_in (word 2 words)) in
    let b = range_end (length held) (number_in (word 3 words)) in
    let from : to_z w64 (of_z w64 c.number_in.result) ≡ number_in (word 2 words) = as_number c.number_in.result c.word.result.now (word 2 words) c.number_in.ensures.value c.word.ensures.word in
    let to : to_z w64 (of_z w64 c.number_in-2.result) ≡ number_in (word 3 words) = as_number c.number_in-2.result c.word-2.result.now (word 3 words) c.number_in-2.ensures.value c.word-2.ensures.word in
    let end : cut.end ≡ b =
    c.cut_range-cut.ensures.end ∙ ap (λ n. range_end n (to_z w64 (of_z w64 c.number_in-2.result))) c.len.ensures.length
    ∙ ap (range_end (length held)) to in
    let first : range_start c.len.result (to_z w64 (of_z w64 c.number_in.result)) ≡ a =
    ap (λ n. range_start n (to_z w64 (of_z w64 c.number_in.result))) c.len.ensures.length
    ∙ ap (range_start (length held)) from in
    let start : cut.start ≡ min a b =
    c.cut_range-cut.ensures.start ∙ ap (λ n. min n (range_end c.len.result (to_z w64 (of_z w64 c.number_in-2.result)))) first
    ∙ ap (min a) (sym c.cut_range-cut.ensures.end ∙ end) in
    let within : cut.end ≤ length held = subst (λ n. cut.end ≤ n) c.len.ensures.length c.cut_range-cut.ensures.within in
    let all = cut.start == cut.end in
    let left = taken_range held (number_in (word 2 words)) (number_in (word 3 words)) in
    let outcome = c.in_ok-outcome.ensures.outcome
    ∙ ap (λ said. taken_outcome all said (codes "LTRIM") (codes "ltrim") words) c.in_ok-reply.ensures.status in
    let kept : c.keep_range.new.self ≡ left = c.keep_range.ensures.kept ∙ cut_items held a b cut.start cut.end start end in
    subst (λ (now : List (List ℕ)). Does c.in_ok-outcome.outcome (Some held) (Some now) (leaves left (reply.Simple (codes "OK")) (codes "LTRIM") (codes "ltrim") words)) (sym kept)
    (left_done all c.in_ok-outcome.outcome left (reply.Simple (codes "OK")) (codes "LTRIM") (codes "ltrim") words (Some held) outcome
    (cut_empty held a b cut.start cut.end start end within))
