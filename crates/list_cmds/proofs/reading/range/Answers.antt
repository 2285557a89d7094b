-- Serves the clause of range.
use Rattle.std.proofs.Common.{◌≡◌, ◌≤◌, ◌∙◌, length, to_z, of_z, min, sym, ap, subst, refl}
use Rattle.std.specs.Int.{w64}
use Rattle.byte_text.specs.Number.{number_in}
use Rattle.sequences.specs.Words.{word}
use Rattle.core_types.specs.Cutting.{range_end, range_start, taken_range}
use Rattle.core_types.specs.declared.reply.Reply.TheVariants as reply
use Rattle.list_cmds.specs.Reading.{bulks}
use Rattle.list_cmds.proofs.Numbers.{as_number}
use Rattle.list_cmds.proofs.Ranges.{cut_count, cut_items, several_by}
use Rattle.list_cmds.proofs.reading.range.Goals as goal

pub returns : goal.returns
returns c old =
    let held = c.args.held.now in
    let words = c.args.words.now in
    let cut = c.cut_range-cut.result in
    let a = range_start (length held) (number_in (word 2 words)) in
    let b = range_end (length held) (number_in (word 3 words)) in
    let from : to_z w64 (of_z w64 c.number_in.result) ≡ number_in (word 2 words) = as_number c.number_in.result c.word.result.now (word 2 words) c.number_in.ensures.value c.word.ensures.word in
    let to : to_z w64 (of_z w64 c.number_in-2.result) ≡ number_in (word 3 words) = as_number c.number_in-2.result c.word-2.result.now (word 3 words) c.number_in-2.ensures.value c.word-2.ensures.word in
    let end : cut.end ≡ b =
    c.cut_range-cut.ensures.end ∙ ap (λ n. range_end n (to_z w64 (of_z w64 c.number_in-2.result))) c.len.ensures.length
    ∙ ap (range_end (length held)) to in
    let first : range_start c.len.result (to_z w64 (of_z w64 c.number_in.result)) ≡ a =
    ap (λ n. range_start n (to_z w64 (of_z w64 c.number_in.result))) c.len.ensures.length
    ∙ ap (range_start (length held)) from in
    let start : cut.start ≡ min a b =
    c.cut_range-cut.ensures.start ∙ ap (λ n. min n (range_end c.len.result (to_z w64 (of_z w64 c.number_in-2.result)))) first
    ∙ ap (min a) (sym c.cut_range-cut.ensures.end ∙ end) in
    let within : cut.end ≤ length held = subst (λ n. cut.end ≤ n) c.len.ensures.length c.cut_range-cut.ensures.within in
    let same = several_by c.in_ok-items.items (taken_range held (number_in (word 2 words)) (number_in (word 3 words)))
    (c.in_ok-items.ensures.count ∙ cut_count held a b cut.start cut.end start end within)
    (c.in_ok-items.ensures.parts ∙ ap bulks (cut_items held a b cut.start cut.end start end)) in
    rw c.answer.ensures.answers (record { body = refl; reply = ap reply.Array same; effects = refl; notes = refl })
